mod Added
mod BoxMoves
mod ChordEnds
mod ChordsNear
pub mod Closed
pub mod Contours
mod Counts
mod EndsOfContours
mod Few
pub mod Moves
pub mod Places
mod Points
pub mod PointsBox
mod Turns
pub mod Walks
mod Weights
mod Whole
