pub mod Defects
pub mod File
pub mod MapLines
pub mod Outcome
pub mod Run
