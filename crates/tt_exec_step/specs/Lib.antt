pub mod FixedWork
pub mod Flags
pub mod Flow
pub mod FunctionTable
pub mod Functions
pub mod Loosened
pub mod MachineState
pub mod Numbered
pub mod OnPoints
pub mod Opcodes
pub mod Operation
pub mod Outcome
pub mod Outcomes
pub mod Runs
pub mod Sizes
pub mod States
pub mod Step
pub mod Views
pub mod WithAll
pub use Rattle.tt_exec_points.specs.zones as zones
pub use Rattle.tt_exec_points.specs as on_points
pub use Rattle.tt_exec_stack.specs as stack
pub use Rattle.tt_exec_state.specs as state
