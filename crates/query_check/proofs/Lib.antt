pub mod FirstPlaces
pub mod Sides
