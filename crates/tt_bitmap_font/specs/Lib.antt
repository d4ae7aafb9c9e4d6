pub mod Bitmaps
pub mod Characters
pub mod Facts
pub mod FontFiles
pub mod Help
