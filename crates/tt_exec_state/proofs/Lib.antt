pub mod Beside
pub mod Places
pub mod Sizes
pub mod Tolerant
mod WithAll
