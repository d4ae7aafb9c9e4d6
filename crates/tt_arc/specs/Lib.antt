pub mod Added
pub mod Bounds
pub mod ChordLaws
pub mod Chords
pub mod Ends
pub mod Examples
pub mod Laws
