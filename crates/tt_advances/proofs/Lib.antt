pub mod Advances
pub mod Finding
pub mod Known
