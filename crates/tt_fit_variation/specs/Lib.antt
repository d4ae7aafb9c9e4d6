pub mod Advance
pub mod Ends
pub mod Fine
pub mod Glyph
pub mod GlyphRows
pub mod Moved
pub mod Records
pub mod Views
