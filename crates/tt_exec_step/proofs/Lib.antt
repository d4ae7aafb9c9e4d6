pub mod Computed
pub mod Entries
pub mod OpcodeTable
pub mod Single
pub mod Sizes
pub mod Slots
pub mod Steps
pub mod Tables
