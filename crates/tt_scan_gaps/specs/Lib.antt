pub mod BothWays
pub mod Boxes
pub mod Crossings
pub mod Dots
pub mod Gaps
pub mod Laws
pub mod Seen
pub mod Walk
