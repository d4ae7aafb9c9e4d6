-- A thing that is passed over is missing.
use Rattle.std.proofs.Common.{◌≡◌, true}
use Rattle.tt_core.specs.declared.fault.Why.{Why}
use Rattle.tt_state.specs.Tolerance.{is_missing, passes_over}
use Rattle.tt_state.specs.declared.tolerance.Tolerance.{Tolerance}
use Rattle.tt_state.specs.declared.tolerance.Tolerance.TheVariants as tolerance

pub missing : (t : Tolerance) (why : Why) → passes_over t why ≡ true → is_missing why ≡ true
missing tolerance.Tolerant why over = over
missing tolerance.Strict why over = absurd cc
