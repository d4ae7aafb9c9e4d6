pub mod Adler
pub mod Blocks
pub mod Chunks
pub mod Crc
pub mod Laws
pub mod Png
pub mod Reading
