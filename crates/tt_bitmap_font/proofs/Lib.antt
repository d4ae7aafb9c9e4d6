pub mod FileGlyphs
pub mod Files
pub mod Fitting
pub mod Hints
pub mod Listing
