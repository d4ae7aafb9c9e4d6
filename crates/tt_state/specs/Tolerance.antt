-- Not from the standard: the refusals that a tolerant machine passes over, and its results then (profile). Established
-- interpreters continue there, and real fonts rely on that.
use Rattle.std.specs.Prelude.{◌≡◌, Bool, true, false, if◌then◌else◌, ℕ, Result, Ok, Err, refl}
use Rattle.tt_core.specs.declared.fault.Why.{Why}
use Rattle.tt_core.specs.declared.fault.Why.TheVariants as why
use Rattle.tt_state.specs.declared.tolerance.Tolerance.{Tolerance}
use Rattle.tt_state.specs.declared.tolerance.Tolerance.TheVariants as tolerance

-- the refusals for missing items
abbrev pub is_missing : Why → Bool
is_missing why.PointRange = true
is_missing why.ContourRange = true
is_missing why.ZoneRange = true
is_missing why.CvtRange = true
is_missing why.StorageRange = true
is_missing _ = false

abbrev pub is_tolerant : Tolerance → Bool
is_tolerant tolerance.Strict = false
is_tolerant tolerance.Tolerant = true

abbrev pub passes_over : Tolerance → Why → Bool
passes_over tolerance.Strict why = false
passes_over tolerance.Tolerant why = is_missing why

-- a result, or `instead` for a refusal that is passed over
abbrev pub unless_missing : {A : Type 0} → Tolerance → A → Result A Why → Result A Why
unless_missing t instead (Ok a) = Ok a
unless_missing t instead (Err why) = if passes_over t why then Ok instead else Err why

-- worked values
no_point_passed_over : unless_missing {A = ℕ} tolerance.Tolerant 7 (Err why.PointRange) ≡ Ok 7
no_point_passed_over = refl

no_point_refused : unless_missing {A = ℕ} tolerance.Strict 7 (Err why.PointRange) ≡ Err why.PointRange
no_point_refused = refl

a_great_value_refused : unless_missing {A = ℕ} tolerance.Tolerant 7 (Err why.ValueRange) ≡ Err why.ValueRange
a_great_value_refused = refl
