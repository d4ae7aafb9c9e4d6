-- A run has exactly one outcome.
use Rattle.std.proofs.Common.{◌≡◌, ℕ, zero, suc, ◌+◌, ◌-◌, ◌<◌, ◌≤◌, ◌⊎◌, inl, inr, Bool, true, false, Result, Ok, Err, sym, ◌∙◌, refl, arith}
use Rattle.std.proofs.lemmas.Bool.{cases_order}
use Rattle.tt_core.specs.Faults.{Fault}
use Rattle.tt_core.specs.Limits.{step_limit}
use Rattle.tt_core.specs.declared.fault.Why.TheVariants as why
use Rattle.tt_exec_step.specs.MachineState.{MachineState, fault_in}
use Rattle.tt_exec_step.specs.Outcomes.{HasOneOutcome}
use Rattle.tt_exec_step.specs.Runs.{Leads, Ends, Halts}
use Rattle.tt_exec_step.specs.Step.{step, is_ended}
use Rattle.tt_exec_step.proofs.Computed.{end_is, fault_is}
use Rattle.tt_exec_step.proofs.Steps.{HasStep, Stops, end_has_none, one_more}

-- equal counts of steps lead to the same state
same_state : (n : ℕ) (s t u : MachineState) → Leads n s t → Leads n s u → t ≡ u
same_state zero s t u p q = sym p ∙ q
same_state (suc n) s t u (m, to_m, made) (m', to_m', made') =
    let same = same_state n s m m' to_m to_m' in
    cc

-- a state within a longer run has a step
passed : (p n k : ℕ) (s t u : MachineState) → p ≡ suc (n + k) → Leads n s t → Leads p s u → HasStep t
passed zero n k s t u e here far = absurd (omega arith)
passed (suc q) n zero s t u e here (m, to_m, made) =
    let last : q ≡ n = omega arith in
    let same = same_state n s m t (rw last at to_m) here in
    (u, rw same at made)
passed (suc q) n (suc k) s t u e here (m, to_m, made) = passed q n k s t m (omega arith) here to_m

apart : (n m : ℕ) (s t u : MachineState) → n < m → Leads n s t → Leads m s u → HasStep t
apart n m s t u less here far = passed m n (m - suc n) s t u (omega arith) here far

few_steps : (n : ℕ) (t : MachineState) (fault : Fault) → Stops n t fault → n ≤ step_limit
few_steps n t fault (inl stuck) = let few = stuck.few in omega arith
few_steps n t fault (inr over) = let all = over.all in omega arith

stop_has_none : (n : ℕ) (t : MachineState) (fault : Fault) → Stops n t fault → n < step_limit → HasStep t → ⊥
stop_has_none n t fault (inl stuck) few (v, made) = let refused = stuck.refused in cc
stop_has_none n t fault (inr over) few made = let all = over.all in absurd (omega arith)

same_fault : (n : ℕ) (t : MachineState) (f g : Fault) → Stops n t f → Stops n t g → f ≡ g
same_fault n t f g (inl a) (inl b) = let one = a.refused in let two = b.refused in cc
same_fault n t f g (inl a) (inr b) = let few = a.few in let all = b.all in absurd (omega arith)
same_fault n t f g (inr a) (inl b) = let few = b.few in let all = a.all in absurd (omega arith)
same_fault n t f g (inr a) (inr b) = a.told ∙ sym b.told

-- the count of steps of one run is equal to the other's, less or more
abbrev Order : ℕ → ℕ → Type 0
Order n m = (n ≡ m) ⊎ ((n < m) ⊎ (m < n))

one_end : (s : MachineState) (n m : ℕ) (t u : MachineState) → Order n m → Ends s n t → Ends s m u → (n ≡ m) × (t ≡ u)
one_end s n m t u (inl same) e d = (same, same_state m s t u (rw same at e.leads) d.leads)
one_end s n m t u (inr (inl less)) e d = absurd (end_has_none t e.ended (apart n m s t u less e.leads d.leads))
one_end s n m t u (inr (inr more)) e d = absurd (end_has_none u d.ended (apart m n s u t more d.leads e.leads))

one_fault : (s : MachineState) (f g : Fault) (h : Halts s f) (i : Halts s g) → Order h.n i.n → f ≡ g
one_fault s f g h i (inl same) =
    let at = same_state i.n s h.t i.t (rw same at h.leads) i.leads in
    same_fault i.n i.t f g (rw (same, at) at h.why) i.why
one_fault s f g h i (inr (inl less)) =
    let few = few_steps i.n i.t g i.why in
    absurd (stop_has_none h.n h.t f h.why (omega arith) (apart h.n i.n s h.t i.t less h.leads i.leads))
one_fault s f g h i (inr (inr more)) =
    let few = few_steps h.n h.t f h.why in
    absurd (stop_has_none i.n i.t g i.why (omega arith) (apart i.n h.n s i.t h.t more i.leads h.leads))

never_both : (s : MachineState) (n : ℕ) (t : MachineState) (fault : Fault) (e : Ends s n t) (h : Halts s fault)
    → Order n h.n → ⊥
never_both s n t fault e h (inl same) =
    let at = same_state h.n s t h.t (rw same at e.leads) h.leads in
    let ended = rw at at e.ended in
    let open_at = h.goes_on in
    cc
never_both s n t fault e h (inr (inl less)) = end_has_none t e.ended (apart n h.n s t h.t less e.leads h.leads)
never_both s n t fault e h (inr (inr more)) =
    let few = e.few in
    stop_has_none h.n h.t fault h.why (omega arith) (apart h.n n s h.t t more h.leads e.leads)

abbrev Outcome : MachineState → Type 0
Outcome s = ((n : ℕ) × (t : MachineState) × Ends s n t) ⊎ ((fault : Fault) × Halts s fault)

-- the outcome at a state that all steps of the limit lead to
last : (b : Bool) (n : ℕ) (s t : MachineState) → is_ended t ≡ b → n ≡ step_limit → Leads n s t → Outcome s
last true n s t ended all leads = inl (n, t, record { few = omega arith; leads = leads; ended = ended })
last false n s t ended all leads = inr (
  fault_in t.frame t.frame.place why.StepLimit,
  record {
    n = n;
    t = t;
    leads = leads;
    goes_on = ended;
    why = inr (record { all = all; told = refl });
  },
)

here : (b : Bool) (r : Result MachineState Fault) (n : ℕ) (s t : MachineState) → is_ended t ≡ b → step t ≡ r
    → n < step_limit → Leads n s t → ((v : MachineState) → step t ≡ Ok v → Outcome s) → Outcome s
here true r n s t ended made few leads next = inl (n, t, record { few = omega arith; leads = leads; ended = ended })
here false (Ok v) n s t ended made few leads next = next v made
here false (Err fault) n s t ended made few leads next = inr (
  fault,
  record {
    n = n;
    t = t;
    leads = leads;
    goes_on = ended;
    why = inl (record { few = few; refused = made });
  },
)

some_outcome : (k n : ℕ) (s t : MachineState) → n + k ≡ step_limit → Leads n s t → Outcome s
some_outcome zero n s t count leads = last (is_ended t) n s t refl (omega arith) leads
some_outcome (suc k) n s t count leads =
    let few : n < step_limit = omega arith in
    let rest : n + 1 + k ≡ step_limit = omega arith in
    here (is_ended t) (step t) n s t refl refl few leads
    (λ v made. some_outcome k (n + 1) s v rest (one_more n s t v leads made))

pub outcome : (s : MachineState) → HasOneOutcome s
outcome s = record {
  some = some_outcome step_limit 0 s s refl refl;
  one_end = λ n m t u e d. one_end s n m t u (cases_order n m) e d;
  one_fault = λ f g h i. one_fault s f g h i (cases_order h.n i.n);
  never_both = λ n t fault e h. never_both s n t fault e h (cases_order n h.n);
  end_is = λ n t e. end_is s n t e;
  fault_is = λ fault h. fault_is s fault h;
}
