pub mod Known
pub mod Sent
pub mod Text
mod Pieces
