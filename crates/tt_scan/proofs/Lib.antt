mod EightBytes
mod Pens
pub mod Columns
pub mod Gaps
pub mod Moved
pub mod Points
pub mod Reached
pub mod Stamped
pub mod Standing
pub mod Totals
pub mod Unmet
pub mod Walked
pub mod Words
