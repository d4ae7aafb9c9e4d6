pub mod Reach
pub mod Shown
