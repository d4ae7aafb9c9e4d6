mod Constants
mod Cuts
pub mod Each
mod KnownBytes
pub mod Numbers
pub mod Offsets
pub mod Pieces
pub mod Quotients
pub mod Refusals
mod Scales
mod Text
pub mod Whole
