mod Instances
mod Plain
mod Readings
mod Told
pub mod Whole
mod WholeInstances
