pub mod Axes
pub mod GraphicsState
pub mod Laws
pub mod Loosening
pub mod Rounding
pub mod Sround
pub mod Tolerance
pub mod Vectors
