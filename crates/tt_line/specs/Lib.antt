pub mod Known
pub mod Labels
pub mod Laws
pub mod Layout
pub mod Outcome
pub mod Sizes
pub mod Steps
pub mod Sums
