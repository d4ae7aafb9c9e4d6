pub mod Copies
pub mod Examples
pub mod Halting
pub mod Machines
pub mod OneProof
pub mod MoreWork
pub mod PaidSteps
pub mod Parts
pub mod RunCost
pub mod Work
pub mod WorkExamples
pub mod Worked
pub use Rattle.tt_exec_step.specs as step
pub use Rattle.tt_exec_step.specs.state as state
pub use Rattle.tt_exec_step.specs.zones as zones
