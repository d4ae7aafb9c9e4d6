-- The work of a run, step by step.
use Rattle.std.proofs.Common.{◌≡◌, ℕ, zero, suc, ◌+◌, ◌-◌, nat_le, Bool, true, false, if◌then◌else◌, Option, Some, None, Result, Ok, Err, ◌∙◌, refl, arith}
use Rattle.std.proofs.lemmas.Bool.Decides.{nat_tests}
use Rattle.tt_core.specs.Faults.{Fault}
use Rattle.tt_core.specs.Limits.{step_limit}
use Rattle.tt_exec_step.specs.MachineState.{MachineState}
use Rattle.tt_exec_step.specs.Step.{step, is_ended}
use Rattle.tt_exec.specs.Work.{Worked, enough, spent, then_work, charged, step_cost, copied, over_at, work_after, work_within, run_work}

-- the program's end needs no work
pub at_end : (n : ℕ) (m : MachineState) (left : Option ℕ) → is_ended m ≡ true → work_within n m left ≡ enough left
unfolding work_within
at_end zero m left ended = refl
at_end (suc n) m left ended = rw ended refl

pub none_left : (m : MachineState) (left : Option ℕ) → work_within zero m left ≡ enough left
unfolding work_within
none_left m left = refl

-- the work of a step, followed by the rest
pub goes_on : (n : ℕ) (m : MachineState) (left : Option ℕ) → is_ended m ≡ false
    → work_within (suc n) m left
    ≡ then_work (charged (over_at m) (step_cost m) left) (work_after (work_within n) (step m))
unfolding work_within
goes_on n m left open_at = rw open_at refl

abbrev pub StepPays : MachineState → Option ℕ → Worked → Type 0
StepPays m left worked = charged (over_at m) (step_cost m) left ≡ worked

pub step_made : (n : ℕ) (m t : MachineState) (left rest : Option ℕ) → is_ended m ≡ false
    → StepPays m left (enough rest) → step m ≡ Ok t → work_within (suc n) m left ≡ work_within n t rest
step_made n m t left rest open_at pays made = goes_on n m left open_at ∙ rw (pays, made) refl

pub step_refused : (n : ℕ) (m : MachineState) (fault : Fault) (left rest : Option ℕ) → is_ended m ≡ false
    → StepPays m left (enough rest) → step m ≡ Err fault → work_within (suc n) m left ≡ enough rest
step_refused n m fault left rest open_at pays refused = goes_on n m left open_at ∙ rw (pays, refused) refl

pub step_spent : (n : ℕ) (m : MachineState) (fault : Fault) (left : Option ℕ) → is_ended m ≡ false
    → StepPays m left (spent fault) → work_within (suc n) m left ≡ spent fault
step_spent n m fault left open_at pays = goes_on n m left open_at ∙ rw pays refl

pub begins : (m : MachineState) (left : Option ℕ)
    → run_work m left ≡ then_work (charged (over_at m) (copied m) left) (work_within step_limit m)
unfolding run_work
begins m left = refl

pub run_begun : (m : MachineState) (left rest : Option ℕ) → charged (over_at m) (copied m) left ≡ enough rest
    → run_work m left ≡ work_within step_limit m rest
run_begun m left rest pays = begins m left ∙ rw pays refl

pub run_spent : (m : MachineState) (left : Option ℕ) (fault : Fault)
    → charged (over_at m) (copied m) left ≡ spent fault → run_work m left ≡ spent fault
run_spent m left fault pays = begins m left ∙ rw pays refl

-- work without a budget

unbounded_after : (n : ℕ) (r : Result MachineState Fault)
    → ((m : MachineState) → work_within n m None ≡ enough None) → work_after (work_within n) r None ≡ enough None
unbounded_after n (Ok t) rest = rest t
unbounded_after n (Err fault) rest = refl

unbounded_from : (b : Bool) (n : ℕ) (m : MachineState) → is_ended m ≡ b
    → ((t : MachineState) → work_within n t None ≡ enough None) → work_within (suc n) m None ≡ enough None
unbounded_from true n m ended rest = at_end (suc n) m None ended
unbounded_from false n m ended rest = goes_on n m None ended ∙ unbounded_after n (step m) rest

unbounded_within : (n : ℕ) (m : MachineState) → work_within n m None ≡ enough None
unbounded_within zero m = none_left m None
unbounded_within (suc n) m = unbounded_from (is_ended m) n m refl (λ t. unbounded_within n t)

pub unbounded : (m : MachineState) → run_work m None ≡ enough None
unbounded m = begins m None ∙ unbounded_within step_limit m

-- what a charge leaves

enough_by : (b : Bool) (cost left : ℕ) (told : Fault) (after : Option ℕ) → nat_le cost left ≡ b
    → (if b then enough (Some (left - cost)) else spent told) ≡ enough after
    → (rest : ℕ) × (after ≡ Some rest) × (rest + cost ≡ left)
enough_by true cost left told after within e = (left - cost, cc, grind (arith, nat_tests))
enough_by false cost left told after within e = absurd (cc)

pub charged_enough : (told : Fault) (cost left : ℕ) (after : Option ℕ) → charged told cost (Some left) ≡ enough after
    → (rest : ℕ) × (after ≡ Some rest) × (rest + cost ≡ left)
charged_enough told cost left after e = enough_by (nat_le cost left) cost left told after refl e
