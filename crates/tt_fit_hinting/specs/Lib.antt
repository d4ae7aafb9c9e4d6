pub mod GlyphZone
pub mod Hinting
pub mod Parts
pub mod Views
pub mod Work
pub mod WorkLaws
pub use Rattle.tt_exec.specs as machine
pub use Rattle.tt_exec.specs.state as state
pub use Rattle.tt_exec.specs.step as step
