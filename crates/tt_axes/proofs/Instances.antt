-- What a job asks for is there where the definitions give coordinates.
use Rattle.std.proofs.Common.{◌≡◌, ℕ, List, Option, Result, Ok, inl, inr, subst}
use Rattle.std.specs.Prelude.{IsOkAnd}
use Rattle.tt_core.specs.Directory.{Directory, HasNo}
use Rattle.tt_core.specs.Faults.{Fault}
use Rattle.tt_axes.specs.declared.values.AxisValue.{AxisValue}
use Rattle.tt_axes.specs.Fvar.{fvar_of, IsFvarDefect}
use Rattle.tt_axes.specs.InstanceCoordinates.{IsInstanceDefect}
use Rattle.tt_axes.specs.Instances.{IsWrongInstance}

pub nothing-wrong : (d : Directory) (fvar : List ℕ) (named : Option ℕ) (values : List AxisValue) → fvar_of d ≡ Ok fvar
    → HasNo (IsFvarDefect d) → HasNo (IsWrongInstance fvar named values) → HasNo (IsInstanceDefect d named values)
nothing-wrong d fvar named values there whole right = λ fault. λ defect. elim defect [
  | inl broken ↦ whole fault broken
  | inr wrong ↦ let P : Result (List ℕ) Fault → Type 0 = λ r. IsOkAnd r (λ f. IsWrongInstance f named values fault) in
      right fault (subst P there wrong)
]
