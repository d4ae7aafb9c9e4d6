pub mod HeldLines
mod PassedLines
pub mod Printed
mod TextsReports
pub use Rattle.tt_render_streams.proofs as streams
