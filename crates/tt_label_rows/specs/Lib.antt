pub mod Heights
pub mod Pictures
pub mod Rows
pub mod Units
