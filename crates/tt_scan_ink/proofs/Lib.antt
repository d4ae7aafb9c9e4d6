pub mod Counts
pub mod Held
pub mod Near
pub mod NearInk
pub mod Regions
pub mod Together
