pub mod Costs
pub mod MoreWork
pub mod RunCosts
pub mod PaidSteps
pub mod StepsPaid
pub mod WorkPaid
