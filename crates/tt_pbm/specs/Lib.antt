pub mod P4
pub mod Writing
