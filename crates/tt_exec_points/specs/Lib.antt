pub mod ControlValues
pub mod Instruction
pub mod Laws
pub mod Popping
pub mod Shapes
pub mod WithAll
pub mod Zones
pub use Rattle.tt_points.specs.zones as zones
pub use Rattle.tt_points_loops.specs as loops
pub use Rattle.tt_points.specs as points
