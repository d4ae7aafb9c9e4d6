pub mod Answers
pub mod LineReading
pub mod Lines
pub mod Printing
pub mod Readings
pub mod Reports
pub mod TextsMessages
pub mod Views
pub use Rattle.tt_render_streams.specs as streams
