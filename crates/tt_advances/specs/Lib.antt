pub mod Defects
pub mod Found
pub mod Laws
pub mod Lines
pub mod Rows
pub mod Views
