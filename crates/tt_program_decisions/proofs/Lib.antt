mod KeptBytes
mod Quotes
pub mod Statuses
