pub mod Paid
pub mod ProgramCosts
pub mod Zones
pub use Rattle.tt_exec.proofs as machine
