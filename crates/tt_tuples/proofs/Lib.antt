pub mod Axes
pub mod Chains
pub mod DeltaRuns
pub mod NumberRuns
pub mod Rising
pub mod Steps
pub mod Whole
