pub mod Contours
pub mod Lists
pub mod Outlines
pub mod Pixels
pub mod Shifts
