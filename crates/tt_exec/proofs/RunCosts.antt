-- The cost of a run is one number, whatever remains of the budget.
use Rattle.std.proofs.Common.{◌≡◌, ℕ, zero, suc, ◌+◌, ◌-◌, ◌<◌, ◌≤◌, nat_le, Bool, true, false, if◌then◌else◌, Option, Some, None, Result, Ok, Err, sym, ◌∙◌, ap, subst, refl, arith}
use Rattle.std.proofs.lemmas.Bool.Decides.{nat_tests}
use Rattle.tt_core.specs.Faults.{Fault}
use Rattle.tt_core.specs.Limits.{step_limit}
use Rattle.tt_core.specs.declared.fault.Why.TheVariants as why
use Rattle.tt_exec_step.specs.MachineState.{MachineState}
use Rattle.tt_exec_step.specs.Step.{step, is_ended}
use Rattle.tt_exec.specs.RunCost.{Costs, HasCost, IsCost, RunsHaveCosts, Grows, RunsGrow}
use Rattle.tt_exec.specs.Work.{Worked, enough, spent, then_work, charged, step_cost, copied, over_at, work_after, work_within, run_work}
use Rattle.tt_exec.specs.Worked.{SpentWork, WorkFalls}
use Rattle.tt_exec.proofs.WorkPaid.{at_end, none_left, goes_on, begins, unbounded}

-- no work
pub free : HasCost enough
free = record { cost = 0; each = λ left. omega arith }

-- one work, then another
later : (a b left k : ℕ) (worked : Worked) → k + a ≡ left → Costs b k worked → Costs (a + b) left worked
later a b left k (enough (Some rest)) one two = omega arith
later a b left k (enough None) one two = two
later a b left k (spent fault) one two = let less = two.0 in (omega arith, two.1)

both : (a b left : ℕ) (worked : Worked) (more : Option ℕ → Worked) → Costs a left worked
    → ((k : ℕ) → Costs b k (more (Some k))) → Costs (a + b) left (then_work worked more)
both a b left (enough (Some k)) more one rest = later a b left k (more (Some k)) one (rest k)
both a b left (enough None) more one rest = absurd one
both a b left (spent fault) more one rest = let less = one.0 in (omega arith, one.1)

pub costs_both : (first more : Option ℕ → Worked) → HasCost first → HasCost more
    → HasCost (λ left. then_work (first left) more)
costs_both first more one two = record {
  cost = one.cost + two.cost;
  each = λ left. both one.cost two.cost left (first (Some left)) more (one.each left) two.each;
}

-- equal work has the same cost
pub same_cost : (worked same : Option ℕ → Worked) → ((left : ℕ) → same (Some left) ≡ worked (Some left))
    → HasCost worked → HasCost same
same_cost worked same is has = record {
  cost = has.cost;
  each = λ left. subst (λ w. Costs has.cost left w) (sym (is left)) (has.each left);
}

-- a charge
charged_by : (b : Bool) (cost left : ℕ) (told : Fault) → nat_le cost left ≡ b → told.why ≡ why.StepLimit
    → Costs cost left (if b then enough (Some (left - cost)) else spent told)
charged_by true cost left told within limited = grind (arith, nat_tests)
charged_by false cost left told within limited = (grind (arith, nat_tests), limited)

of_charge : (m : MachineState) (cost : ℕ) → HasCost (charged (over_at m) cost)
of_charge m cost = record {
  cost = cost;
  each = λ left. charged_by (nat_le cost left) cost left (over_at m) refl refl;
}

-- the steps of a run; a refused step is the last
of_rest : (n : ℕ) (r : Result MachineState Fault) → ((m : MachineState) → HasCost (work_within n m))
    → HasCost (work_after (work_within n) r)
of_rest n (Ok t) rest = rest t
of_rest n (Err told) rest = free

of_steps_by : (b : Bool) (n : ℕ) (m : MachineState) → is_ended m ≡ b → ((t : MachineState) → HasCost (work_within n t))
    → HasCost (work_within (suc n) m)
of_steps_by true n m ended rest =
    same_cost enough (work_within (suc n) m) (λ left. at_end (suc n) m (Some left) ended) free
of_steps_by false n m ended rest =
    let first = charged (over_at m) (step_cost m) in
    let more = work_after (work_within n) (step m) in
    same_cost (λ left. then_work (first left) more) (work_within (suc n) m) (λ left. goes_on n m (Some left) ended)
    (costs_both first more (of_charge m (step_cost m)) (of_rest n (step m) rest))

of_steps : (n : ℕ) (m : MachineState) → HasCost (work_within n m)
of_steps zero m = same_cost enough (work_within zero m) (λ left. none_left m (Some left)) free
of_steps (suc n) m = of_steps_by (is_ended m) n m refl (λ t. of_steps n t)

pub of_run : (m : MachineState) → HasCost (run_work m)
of_run m =
    let first = charged (over_at m) (copied m) in
    same_cost (λ left. then_work (first left) (work_within step_limit m)) (run_work m) (λ left. begins m (Some left))
    (costs_both first (work_within step_limit m) (of_charge m (copied m)) (of_steps step_limit m))

-- by the budget
rest_of : (cost left : ℕ) (worked : Worked) → Costs cost left worked → cost ≤ left → worked ≡ enough (Some (left - cost))
rest_of cost left (enough (Some rest)) is within =
    let same : rest ≡ left - cost = omega arith in rw same refl
rest_of cost left (enough None) is within = absurd is
rest_of cost left (spent fault) is within = let less = is.0 in absurd (omega arith)

over_of : (cost left : ℕ) (worked : Worked) → Costs cost left worked → left < cost
    → (fault : Fault) × (worked ≡ spent fault) × (fault.why ≡ why.StepLimit)
over_of cost left (enough (Some rest)) is less = absurd (omega arith)
over_of cost left (enough None) is less = absurd is
over_of cost left (spent fault) is less = (fault, refl, is.1)

pub is_cost : (worked : Option ℕ → Worked) (has : HasCost worked) → IsCost has.cost worked
is_cost worked has = (
  λ left within. rest_of has.cost left (worked (Some left)) (has.each left) within,
  λ left less. over_of has.cost left (worked (Some left)) (has.each left) less,
)

-- by what remained
told_rest : (cost left rest : ℕ) (worked : Worked) → Costs cost left worked → worked ≡ enough (Some rest)
    → rest + cost ≡ left
told_rest cost left rest worked is e = subst (λ w. Costs cost left w) e is

pub rest_is : (cost left : ℕ) (worked : Worked) (after : Option ℕ) → Costs cost left worked → worked ≡ enough after
    → (rest : ℕ) × (after ≡ Some rest) × (rest + cost ≡ left)
rest_is cost left (enough (Some k)) after is e = (k, cc, is)
rest_is cost left (enough None) after is e = absurd is
rest_is cost left (spent f) after is e = absurd cc

pub paid : (worked : Option ℕ → Worked) (has : HasCost worked) (left rest : ℕ)
    → worked (Some left) ≡ enough (Some rest) → rest + has.cost ≡ left
paid worked has left rest e = told_rest has.cost left rest (worked (Some left)) (has.each left) e

told_limit : (cost left : ℕ) (fault : Fault) (worked : Worked) → Costs cost left worked → worked ≡ spent fault
    → fault.why ≡ why.StepLimit
told_limit cost left fault worked is e = let told = subst (λ w. Costs cost left w) e is in told.1

pub limited : (worked : Option ℕ → Worked) → HasCost worked → (left : ℕ) (fault : Fault) → worked (Some left) ≡ spent fault
    → fault.why ≡ why.StepLimit
limited worked has left fault e = told_limit has.cost left fault (worked (Some left)) (has.each left) e

-- what remains is at most what there was
pub falls : (worked : Option ℕ → Worked) → HasCost worked → (left : ℕ) (after : Option ℕ)
    → worked (Some left) ≡ enough after → (rest : ℕ) × (after ≡ Some rest) × (rest ≤ left)
falls worked has left after e =
    let (rest, is, sum) = rest_is has.cost left (worked (Some left)) after (has.each left) e in
    (rest, is, omega arith)

pub grows : (worked : Option ℕ → Worked) → HasCost worked → Grows worked
grows worked has left rest more e =
    let sum = paid worked has left rest e in
    let same : left + more - has.cost ≡ rest + more = omega arith in
    (is_cost worked has).0 (left + more) (omega arith) ∙ ap (λ k. enough (Some k)) same

pub runs_have_costs : RunsHaveCosts
runs_have_costs m = (_, is_cost (run_work m) (of_run m))

pub runs_grow : RunsGrow
runs_grow m = grows (run_work m) (of_run m)

pub spent_work : SpentWork
spent_work m None fault e = let none = unbounded m in absurd cc
spent_work m (Some left) fault e = limited (run_work m) (of_run m) left fault e

pub work_falls : WorkFalls
work_falls m left after e = falls (run_work m) (of_run m) left after e
