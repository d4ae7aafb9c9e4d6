pub mod Blackened
pub mod Contours
pub mod EdgeList
pub mod EdgeTable
pub mod Stamps
pub mod Tape
