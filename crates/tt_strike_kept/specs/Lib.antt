pub mod Glyph
pub mod Kept
pub mod Laws
