mod Known
mod Pieces
