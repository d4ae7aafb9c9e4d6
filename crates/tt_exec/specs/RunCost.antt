-- No part of the standard: the cost of a run, if its job has a budget (profile). The cost is one number, whatever remains.
use Rattle.std.specs.Prelude.{◌≡◌, ℕ, ◌+◌, ◌-◌, ◌≤◌, ◌<◌, codes, Option, Some, None, refl}
use Rattle.tt_core.specs.Faults.{Fault, fault_at}
use Rattle.tt_core.specs.declared.fault.Why.TheVariants as why
use Rattle.tt_exec_step.specs.MachineState.{MachineState}
use Rattle.tt_exec.specs.Work.{Worked, enough, spent, charged, run_work}

-- This work had so much, and its cost is so much: the rest remains. Or there was less, and StepLimit refused the work.
abbrev pub Costs : ℕ → ℕ → Worked → Type 0
Costs cost left (enough (Some rest)) = rest + cost ≡ left
Costs cost left (enough None) = ⊥
Costs cost left (spent fault) = (left < cost) × (fault.why ≡ why.StepLimit)

-- one cost for every budget
pub record HasCost (worked : Option ℕ → Worked) : Type 0 where
  pub cost : ℕ
  pub each : (left : ℕ) → Costs cost left (worked (Some left))

-- the laws of costs

-- A budget of at least the cost leaves the difference. A smaller budget is refused by StepLimit.
abbrev pub IsCost : ℕ → (Option ℕ → Worked) → Type 0
IsCost cost worked = ((left : ℕ) → cost ≤ left → worked (Some left) ≡ enough (Some (left - cost)))
    × ((left : ℕ) → left < cost → (fault : Fault) × (worked (Some left) ≡ spent fault) × (fault.why ≡ why.StepLimit))

abbrev pub RunsHaveCosts : Type 0
RunsHaveCosts = (m : MachineState) → (cost : ℕ) × IsCost cost (run_work m)

-- Work within a budget is within each larger budget too, and leaves as much more.
abbrev pub Grows : (Option ℕ → Worked) → Type 0
Grows worked = (left rest more : ℕ) → worked (Some left) ≡ enough (Some rest)
    → worked (Some (left + more)) ≡ enough (Some (rest + more))

abbrev pub RunsGrow : Type 0
RunsGrow = (m : MachineState) → Grows (run_work m)

-- worked values: a charge of 40
abbrev over : Fault
over = fault_at (codes "glyf") 14 why.StepLimit

forty_of_a_hundred : charged over 40 (Some 100) ≡ enough (Some 60)
forty_of_a_hundred = refl

sixty_are_left : Costs 40 100 (enough (Some 60))
sixty_are_left = refl

none_are_left : Costs 40 40 (charged over 40 (Some 40))
none_are_left = refl

one_too_few : charged over 40 (Some 39) ≡ spent over
one_too_few = refl

refused_by_step_limit : over.why ≡ why.StepLimit
refused_by_step_limit = refl
