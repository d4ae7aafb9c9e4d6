pub mod Contours
pub mod Ranges
