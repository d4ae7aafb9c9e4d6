-- The computed outcome of a run is the one that its steps lead to.
use Rattle.std.proofs.Common.{◌≡◌, ℕ, zero, suc, ◌+◌, ◌-◌, ◌≤◌, inl, inr, Bool, true, false, Ok, Err, sym, ◌∙◌, ap, refl, arith}
use Rattle.tt_core.specs.Faults.{Fault}
use Rattle.tt_core.specs.Limits.{step_limit}
use Rattle.tt_core.specs.declared.fault.Why.TheVariants as why
use Rattle.tt_exec_step.specs.MachineState.{MachineState, fault_in}
use Rattle.tt_exec_step.specs.Runs.{Leads, Ends, Halts, run_within, run_outcome}
use Rattle.tt_exec_step.specs.Step.{step, is_ended}
use Rattle.tt_exec_step.proofs.Steps.{Stops, end_has_none}

-- one more step: the step, followed by the rest
stepped : (k : ℕ) (s t : MachineState) → is_ended s ≡ false → step s ≡ Ok t → run_within (suc k) s ≡ run_within k t
unfolding run_within
stepped k s t open_at made = rw (open_at, made) refl

refused : (k : ℕ) (s : MachineState) (f : Fault) → is_ended s ≡ false → step s ≡ Err f → run_within (suc k) s ≡ Err f
unfolding run_within
refused k s f open_at made = rw (open_at, made) refl

at_limit : (s : MachineState) → is_ended s ≡ false
    → run_within zero s ≡ Err (fault_in s.frame s.frame.place why.StepLimit)
unfolding run_within
at_limit s open_at = rw open_at refl

at_end : (k : ℕ) (s : MachineState) → is_ended s ≡ true → run_within k s ≡ Ok s
unfolding run_within
at_end zero s ended = rw ended refl
at_end (suc k) s ended = rw ended refl

-- a state with a step is not the program's end
goes_on : (b : Bool) (s t : MachineState) → is_ended s ≡ b → step s ≡ Ok t → is_ended s ≡ false
goes_on true s t ended made = absurd (end_has_none s ended (t, made))
goes_on false s t ended made = ended

-- an equal count of steps
within_same : (n m : ℕ) (s : MachineState) → n ≡ m → run_within n s ≡ run_within m s
within_same n m s same = rw same refl

-- the rest of a run, after its first steps
left : (n k : ℕ) (s t : MachineState) → Leads n s t → run_within (k + n) s ≡ run_within k t
left zero k s t same = within_same (k + zero) k s (omega arith) ∙ ap (run_within k) same
left (suc n) k s t (m, to_m, made) =
    within_same (k + suc n) (suc k + n) s (omega arith)
    ∙ left n (suc k) s m to_m
    ∙ stepped k m t (goes_on (is_ended m) m t refl made) made

is_within : (s : MachineState) → run_outcome s ≡ run_within step_limit s
unfolding run_outcome
is_within s = refl

from_here : (n : ℕ) (s t : MachineState) → n ≤ step_limit → Leads n s t
    → run_outcome s ≡ run_within (step_limit - n) t
from_here n s t few leads =
    is_within s ∙ within_same step_limit (step_limit - n + n) s (omega arith) ∙ left n (step_limit - n) s t leads

pub end_is : (s : MachineState) (n : ℕ) (t : MachineState) → Ends s n t → run_outcome s ≡ Ok t
end_is s n t e = from_here n s t e.few e.leads ∙ at_end (step_limit - n) t e.ended

halted : (n : ℕ) (s t : MachineState) (f : Fault) → is_ended t ≡ false → Leads n s t → Stops n t f
    → run_outcome s ≡ Err f
halted n s t f open_at leads (inl stuck) =
    let few = stuck.few in
    from_here n s t (omega arith) leads
    ∙ within_same (step_limit - n) (suc (step_limit - suc n)) t (omega arith)
    ∙ refused (step_limit - suc n) t f open_at stuck.refused
halted n s t f open_at leads (inr over) =
    let all = over.all in
    from_here n s t (omega arith) leads
    ∙ within_same (step_limit - n) zero t (omega arith)
    ∙ at_limit t open_at
    ∙ rw over.told refl

pub fault_is : (s : MachineState) (f : Fault) → Halts s f → run_outcome s ≡ Err f
fault_is s f h = halted h.n s h.t f h.goes_on h.leads h.why

-- the outcome of a run from an equal state
pub end_told : (s m : MachineState) (n : ℕ) (t : MachineState) → m ≡ s → Ends m n t → run_outcome s ≡ Ok t
end_told s m n t same e = ap run_outcome (sym same) ∙ end_is m n t e
