-- No part of the standard: the text on standard error.
use Rattle.std.specs.Prelude.{◌≡◌, ℕ, ◌<◌, Bool, true, false, List, length, take, Option}
use Rattle.std.specs.Io.KnownBytes.{Appends, Keeps}

-- standard error before a call and after it: the printed bytes, None where no contract knows them, and whether it has
-- failed
pub record Errors : Type 0 where
  pub before : Option (List ℕ)
  pub after : Option (List ℕ)
  pub failed : Bool

-- the device by its own contract
abbrev pub errors_of : {E : Type 0} → (E → Option (List ℕ)) → (E → Bool) → E → E → Errors
errors_of written has_failed before after =
    record { before = written before; after = written after; failed = has_failed after }

abbrev pub PrintsUnless : Bool → Option (List ℕ) → Option (List ℕ) → List ℕ → Type 0
PrintsUnless false before after text = Appends before after text
PrintsUnless true before after text = (sent : ℕ) × (sent < length text) × Appends before after (take sent text)

-- a text was printed; where the device has failed, a part of it
abbrev pub Prints : Errors → List ℕ → Type 0
Prints e text = PrintsUnless e.failed e.before e.after text

-- nothing was printed
abbrev pub PrintsNothing : Errors → Type 0
PrintsNothing e = Keeps e.before e.after × (e.failed ≡ false)

-- a text was printed, or nothing if the device had failed before
abbrev pub PrintsBehind : Bool → Errors → List ℕ → Type 0
PrintsBehind false e text = Prints e text
PrintsBehind true e text = Keeps e.before e.after × (e.failed ≡ true)
