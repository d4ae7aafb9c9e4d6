-- Steps that were paid for, and how a run stops after them.
use Rattle.std.proofs.Common.{◌≡◌, ◌≢◌, ℕ, zero, suc, ◌+◌, ◌-◌, ◌<◌, ◌≤◌, false, true, inl, Option, Some, None, IfOk, Result, Ok, Err, sym, ◌∙◌, ap, refl, arith}
use Rattle.tt_core.specs.Faults.{Fault, fault_at}
use Rattle.tt_core.specs.Limits.{step_limit}
use Rattle.tt_core.specs.declared.fault.Why.TheVariants as why
use Rattle.tt_exec_step.specs.declared.outcome.Outcome.{Outcome}
use Rattle.tt_exec_step.specs.declared.outcome.Outcome.TheVariants as outcome
use Rattle.tt_exec_step.specs.MachineState.{Code, MachineState}
use Rattle.tt_exec_step.specs.Outcome.{ComesTo}
use Rattle.tt_exec_step.specs.Runs.{Leads, Halts, run_outcome}
use Rattle.tt_exec_step.specs.Step.{step, is_ended}
use Rattle.tt_exec_step.proofs.Computed.{fault_is}
use Rattle.tt_exec.specs.declared.fault.ExecFault.{ExecFault}
use Rattle.tt_exec.specs.declared.fault.ExecFault.TheVariants as exec
use Rattle.tt_exec.specs.declared.work.WorkFault.{WorkFault}
use Rattle.tt_exec.specs.declared.work.WorkFault.TheVariants as work
use Rattle.tt_exec.specs.Halting.{halted}
use Rattle.tt_exec.specs.Machines.{Machine, run_from}
use Rattle.tt_exec.specs.Work.{enough, spent, charged, step_cost, copied, over_at, work_within, run_work}
use Rattle.tt_exec.specs.Worked.{Paid, RunsTo, RunsWithin, WorkIs, OutcomeWithin}
use Rattle.tt_exec.proofs.WorkPaid.{StepPays, at_end, none_left, step_made, step_refused, step_spent, run_begun, run_spent, charged_enough}

-- no payment yet
pub paid_none : (left : Option ℕ) → Paid 0 left left
paid_none None = refl
paid_none (Some left) = (left, refl, omega arith)

step_counts : (m : MachineState) → 1 ≤ step_cost m
step_counts m = omega arith

paid_one : (cost n : ℕ) (told : Fault) (old mid new : Option ℕ) → 1 ≤ cost → Paid n old mid
    → charged told cost mid ≡ enough new → Paid (n + 1) old new
paid_one cost n told None mid new some none pays = let to = rw none at pays in cc
paid_one cost n told (Some left) mid new some (rest, is, few) pays =
    let (k, same, sum) = charged_enough told cost rest new (rw is at pays) in
    (k, same, omega arith)

pub paid_more : (n : ℕ) (m : MachineState) (old mid new : Option ℕ) → Paid n old mid → StepPays m mid (enough new)
    → Paid (n + 1) old new
paid_more n m old mid new paid pays = paid_one (step_cost m) n (over_at m) old mid new (step_counts m) paid pays

paid_copies : (told : Fault) (cost n : ℕ) (old mid new : Option ℕ) → charged told cost old ≡ enough mid
    → Paid n mid new → Paid n old new
paid_copies told cost n None mid new pays paid = let none : mid ≡ None = cc in rw none at paid
paid_copies told cost n (Some left) mid new pays paid =
    let (k, same, sum) = charged_enough told cost left mid pays in
    let (rest, is, few) = rw same at paid in
    (rest, is, omega arith)

-- after steps that were paid for, the rest of the run's work
abbrev pub Comes : MachineState → Option ℕ → ℕ → MachineState → Option ℕ → Type 0
Comes s first n m left = work_within step_limit s first ≡ work_within (step_limit - n) m left

same_number : (a b : ℕ) (m : MachineState) (left : Option ℕ) → a ≡ b → work_within a m left ≡ work_within b m left
same_number a b m left same = rw same refl

one_is_left : (s m : MachineState) (first left : Option ℕ) (n : ℕ) → n < step_limit → Comes s first n m left
    → work_within step_limit s first ≡ work_within (suc (step_limit - suc n)) m left
one_is_left s m first left n few comes =
    comes ∙ same_number (step_limit - n) (suc (step_limit - suc n)) m left (omega arith)

pub comes_on : (s m t : MachineState) (first left rest : Option ℕ) (n : ℕ) → n < step_limit → is_ended m ≡ false
    → Comes s first n m left → StepPays m left (enough rest) → step m ≡ Ok t → Comes s first (n + 1) t rest
comes_on s m t first left rest n few open_at comes pays made =
    one_is_left s m first left n few comes
    ∙ step_made (step_limit - suc n) m t left rest open_at pays made
    ∙ same_number (step_limit - suc n) (step_limit - (n + 1)) t rest (omega arith)

pub comes_to_end : (s m : MachineState) (first left : Option ℕ) (n : ℕ) → is_ended m ≡ true → Comes s first n m left
    → work_within step_limit s first ≡ enough left
comes_to_end s m first left n ended comes = comes ∙ at_end (step_limit - n) m left ended

pub comes_to_limit : (s m : MachineState) (first left : Option ℕ) (n : ℕ) → n ≡ step_limit → Comes s first n m left
    → work_within step_limit s first ≡ enough left
comes_to_limit s m first left n all comes =
    comes ∙ same_number (step_limit - n) zero m left (omega arith) ∙ none_left m left

pub comes_to_spent : (s m : MachineState) (first left : Option ℕ) (n : ℕ) (fault : Fault) → n < step_limit
    → is_ended m ≡ false → Comes s first n m left → StepPays m left (spent fault)
    → work_within step_limit s first ≡ spent fault
comes_to_spent s m first left n fault few open_at comes pays =
    one_is_left s m first left n few comes ∙ step_spent (step_limit - suc n) m fault left open_at pays

comes_to_fault : (s m : MachineState) (first left rest : Option ℕ) (n : ℕ) (fault : Fault) → n < step_limit
    → is_ended m ≡ false → Comes s first n m left → StepPays m left (enough rest) → step m ≡ Err fault
    → work_within step_limit s first ≡ enough rest
comes_to_fault s m first left rest n fault few open_at comes pays refused =
    one_is_left s m first left n few comes ∙ step_refused (step_limit - suc n) m fault left rest open_at pays refused

pub comes_to_refusal : (o : Outcome) (s m t : MachineState) (at : ℕ) (first left rest : Option ℕ) (n : ℕ)
    → n < step_limit → is_ended m ≡ false → Comes s first n m left → StepPays m left (enough rest)
    → ComesTo (step m) at t o → o ≢ outcome.Done → (told : ExecFault) → told ≡ halted t.frame at o
    → WorkIs (work_within step_limit s) first (Err (work.Run told)) rest
comes_to_refusal outcome.Done s m t at first left rest n few open_at comes pays given not_done told is =
    absurd (not_done refl)
comes_to_refusal (outcome.Refused why) s m t at first left rest n few open_at comes pays given not_done told is =
    rw is (comes_to_fault s m first left rest n _ few open_at comes pays given.1)
comes_to_refusal (outcome.SkipRefused why) s m t at first left rest n few open_at comes pays given not_done told is =
    rw is (comes_to_fault s m first left rest n _ few open_at comes pays given)
comes_to_refusal outcome.NoMemory s m t at first left rest n few open_at comes pays given not_done told is = rw is tt

-- a refused step halts the run
halts_at : (s m : MachineState) (n : ℕ) (fault : Fault) → n < step_limit → is_ended m ≡ false → Leads n s m
    → step m ≡ Err fault → Halts s fault
halts_at s m n fault few open_at leads refused = record {
  n = n;
  t = m;
  leads = leads;
  goes_on = open_at;
  why = inl (record { few = few; refused = refused });
}

pub halts_by : (o : Outcome) (s m t : MachineState) (at n : ℕ) → n < step_limit → is_ended m ≡ false → Leads n s m
    → ComesTo (step m) at t o → o ≢ outcome.Done → (told : ExecFault) → told ≡ halted t.frame at o
    → RunsTo s (Err (work.Run told)) t
halts_by outcome.Done s m t at n few open_at leads given not_done told is = absurd (not_done refl)
halts_by (outcome.Refused why) s m t at n few open_at leads given not_done told is =
    rw is (halts_at s m n _ few open_at leads given.1)
halts_by (outcome.SkipRefused why) s m t at n few open_at leads given not_done told is =
    rw is (halts_at s m n _ few open_at leads given)
halts_by outcome.NoMemory s m t at n few open_at leads given not_done told is = rw is tt

-- the fault of a run is its computed outcome, from an equal state
pub fault_told : (s m t : MachineState) (e : WorkFault) (new : Machine) → m ≡ s → RunsTo m (Err e) t
    → OutcomeWithin (run_outcome s) (Err e) new
fault_told s m t (work.Run (exec.Font f)) new same h = ap run_outcome (sym same) ∙ fault_is m f h
fault_told s m t (work.Run exec.Memory) new same h = tt
fault_told s m t (work.Run exec.Failed) new same h = tt
fault_told s m t (work.Spent f) new same h = tt

-- a run that has no result on a machine that had not failed, and now has
pub runs_failed : (p : Code) (old new : Machine) (m t : MachineState) (e : WorkFault) → old.failed ≡ false
    → new.failed ≡ true → m ≡ run_from p old.state → RunsTo m (Err e) t → RunsWithin p old (Err e) new
runs_failed p old new m t (work.Run (exec.Font f)) open_at shut same h = (open_at, shut, rw same at h)
runs_failed p old new m t (work.Run exec.Memory) open_at shut same h = (open_at, shut)
runs_failed p old new m t (work.Run exec.Failed) open_at shut same h = absurd h
runs_failed p old new m t (work.Spent f) open_at shut same h = (open_at, shut)

-- a fact about the steps' work is one about the run's, once its copies are paid for
pub work_of_rest : (p : Code) (old new : Machine) (m : MachineState) (left rest after : Option ℕ)
    (r : Result ℕ WorkFault) → old.failed ≡ false → RunsWithin p old r new
    → charged (over_at m) (copied m) left ≡ enough rest → WorkIs (work_within step_limit m) rest r after
    → WorkIs (run_work m) left r after
work_of_rest p old new m left rest after (Ok n) open_at runs pays is = run_begun m left rest pays ∙ is
work_of_rest p old new m left rest after (Err (work.Run (exec.Font f))) open_at runs pays is =
    run_begun m left rest pays ∙ is
work_of_rest p old new m left rest after (Err (work.Run exec.Memory)) open_at runs pays is = tt
work_of_rest p old new m left rest after (Err (work.Run exec.Failed)) open_at runs pays is =
    let failed = runs.0 in absurd (cc)
work_of_rest p old new m left rest after (Err (work.Spent f)) open_at runs pays is =
    (run_begun m left rest pays ∙ is.0, is.1)

pub paid_of_rest : (told : Fault) (cost : ℕ) (old mid new : Option ℕ) (r : Result ℕ WorkFault)
    → charged told cost old ≡ enough mid → IfOk r (λ n. Paid n mid new) → IfOk r (λ n. Paid n old new)
paid_of_rest told cost old mid new (Ok n) pays paid = paid_copies told cost n old mid new pays paid
paid_of_rest told cost old mid new (Err e) pays paid = tt

-- a run whose copies are not paid for halts at the program's first byte
pub not_begun : (p : Code) (s : MachineState) (left : Option ℕ) (fault : Fault)
    → fault ≡ fault_at p.table p.base why.StepLimit
    → ((told : Fault) → charged told (copied s) left ≡ spent told) → run_work (run_from p s) left ≡ spent fault
not_begun p s left fault is pays =
    let m = run_from p s in
    let first : p.base ≡ p.base + 0 = omega arith in
    let same : fault ≡ over_at m = is ∙ ap (λ (n : ℕ). fault_at p.table n why.StepLimit) first in
    rw same (run_spent m left (over_at m) (pays (over_at m)))
