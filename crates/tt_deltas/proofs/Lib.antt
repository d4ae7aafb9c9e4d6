pub mod Added
pub mod Chained
pub mod Listed
pub mod Moved
