mod Pens
mod RowsCut
pub mod Alike
pub mod Among
pub mod Bands
pub mod Blackened
pub mod BodyInk
pub mod Cached
pub mod Crossed
pub mod CutGlyphs
pub mod FirstMet
pub mod Inked
pub mod Keeping
pub mod LineShapes
pub mod Listing
pub mod OutlineBox
pub mod Outlines
pub mod Parts
pub mod Placed
pub mod Places
pub mod RowBytes
pub mod RowColumns
pub mod Seats
pub mod Shown
pub mod Standings
pub mod Turns
pub mod Unbounded
