pub mod Cached
pub mod Cut
pub mod Distinct
pub mod Fitted
pub mod Glyphs
pub mod Ink
pub mod Large
pub mod Lines
pub mod Pictures
pub mod Pixels
pub mod Placed
pub mod Rows
pub mod Shapes
pub mod Stamps
pub mod Steps
pub mod Unfitted
pub mod Views
pub use Rattle.tt_scan_dropouts.specs as dropouts
