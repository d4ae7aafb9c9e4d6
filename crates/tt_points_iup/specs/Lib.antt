pub mod Interpolation
pub mod Readings
pub mod Positions
pub mod Sweeps
pub mod Neighbours
