pub mod Entries
pub mod Words
pub mod Takes
pub mod Tolerant
pub mod Tops
