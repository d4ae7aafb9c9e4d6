pub mod Defects
pub mod Filled
pub mod Greatest
pub mod NoneCut
pub mod RowsFit
pub mod Sizes
pub mod Tries
