pub mod Labels
pub mod LabelSpaces
pub use Rattle.tt_label.specs as label
