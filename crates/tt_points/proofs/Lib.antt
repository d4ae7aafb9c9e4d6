pub mod Points
pub mod TwoSteps
