pub mod Kept
pub mod Shares
