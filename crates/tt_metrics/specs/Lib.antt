pub mod Head
pub mod Hhea
pub mod Hmtx
pub mod Laws
pub mod Maxp
pub mod Metrics
pub mod Tables
pub mod Varied
