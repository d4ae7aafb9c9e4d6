pub mod Commands
pub mod Wanted
