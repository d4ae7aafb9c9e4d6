pub mod Bounds
pub mod Inference
pub mod Laws
pub mod Sweeps
