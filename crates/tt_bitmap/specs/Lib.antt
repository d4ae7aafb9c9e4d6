pub mod Bands
pub mod Bitmaps
pub mod Inks
pub mod Laws
pub mod Words
