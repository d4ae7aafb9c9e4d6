pub mod Halves
pub mod KernTable
pub mod Lists
pub mod LookupSums
pub mod PairLists
pub mod Rising
pub mod SearchEnds
pub mod SearchFinds
pub mod Short
mod Codes
