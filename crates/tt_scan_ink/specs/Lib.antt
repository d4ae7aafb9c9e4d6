pub mod Ink
pub mod Laws
pub mod Least
