pub mod Appended
pub mod Decimals
