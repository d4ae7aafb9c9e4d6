pub mod Distances
pub mod Measuring
pub mod Moving
pub mod Twilight
pub mod Slanted
pub mod ControlValues
pub mod Lines
pub mod Pairs
pub mod Shapes
pub mod WithAll
pub mod Enough
pub mod Halves
pub use Rattle.tt_points_zones.specs as zones
