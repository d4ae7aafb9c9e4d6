-- No part of the standard: the copies for a run, and the payment for them (profile).
use Rattle.std.specs.Prelude.{◌≡◌, ℕ, Option, Some, None}
use Rattle.tt_core.specs.Faults.{Fault}
use Rattle.tt_exec.specs.Work.{enough, spent, charged}

-- what a payment allows: the count of things that may still be copied, and the work that remained after the payment
pub record Copies : Type 0 where
  pub left : ℕ
  pub rest : Option ℕ

-- A payment of a cost, from the remaining work before it and after it. If there was enough, so many things may be
-- copied. If not, nothing may be copied, and no work remains. Whichever fault is told.
abbrev pub PaysFor : ℕ → Option ℕ → Option Copies → Option ℕ → Type 0
PaysFor cost old (Some copies) new =
    (copies.left ≡ cost) × (copies.rest ≡ new) × ((fault : Fault) → charged fault cost old ≡ enough new)
PaysFor cost old None new = ((fault : Fault) → charged fault cost old ≡ spent fault) × (new ≡ Some 0)
