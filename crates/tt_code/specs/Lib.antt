pub mod Decoding
pub mod Skips
pub mod Views
