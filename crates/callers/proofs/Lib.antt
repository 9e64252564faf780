mod Numbered
mod Probed
mod Reduced
