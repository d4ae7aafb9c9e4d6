mod Eighths
pub mod OnAxes
pub mod Parts
mod Pixels
pub mod Roots
pub mod Units
