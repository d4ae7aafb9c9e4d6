-- No instruction adds or removes a storage place or a control value.
use Rattle.std.proofs.Common.{◌≡◌, ℤ, Bool, true, false, if◌then◌else◌, List, [], ◌∷◌, length, Result, Ok, Err, IfOk, refl, length-set}
use Rattle.tt_core.specs.declared.scaling.Scale.{Scale}
use Rattle.tt_core.specs.Outcomes.{◌>>=◌}
use Rattle.tt_core.specs.declared.fault.Why.{Why}
use Rattle.tt_core.specs.declared.fault.Why.TheVariants as why
use Rattle.tt_state.specs.Tolerance.{passes_over, unless_missing}
use Rattle.tt_state.specs.declared.tolerance.Tolerance.{Tolerance}
use Rattle.tt_exec_state.specs.StoredValues.{place, value_set, ws, rs, wcvtp, wcvtf, rcvt, values_accessed}
use Rattle.tt_exec_state.specs.Size.{in_pixels}
use Rattle.tt_exec_state.specs.declared.instruction.StoredValues.{StoredValues}
use Rattle.tt_exec_state.specs.declared.instruction.StoredValues.TheVariants as op

-- a property of the second step, whatever the first gives
after : {A B : Type 0} (P : B → Type 0) (r : Result A Why) (f : A → Result B Why) → ((x : A) → IfOk (f x) P)
    → IfOk (r >>= f) P
after P (Ok x) f every = every x
after P (Err why) f every = tt

chosen : {A : Type 0} (P : A → Type 0) (over : Bool) (instead : A) (e : Why) → P instead
    → IfOk {E = Why} (if over then Ok instead else Err e) P
chosen P true instead e first = first
chosen P false instead e first = tt

-- a property of a result and of the one in its place
unless : {A : Type 0} (P : A → Type 0) (t : Tolerance) (instead : A) (r : Result A Why) → P instead → IfOk r P
    → IfOk (unless_missing t instead r) P
unless P t instead (Ok a) first holds = holds
unless P t instead (Err e) first holds = chosen P (passes_over t e) instead e first

-- a stack, and a list of unchanged length
abbrev AsLong : List ℤ → List ℤ × List ℤ → Type 0
AsLong xs r = length r.1 ≡ length xs

-- a list has the same length with another value at a place
set_kept : (t : Tolerance) (n value : ℤ) (values : List ℤ) (why : Why)
    → IfOk (value_set t n value values why) (λ r. length r ≡ length values)
set_kept t n value values why =
    let long : List ℤ → Type 0 = λ r. length r ≡ length values in
    unless long t values _ refl
    (after long (place n (length values) why) _ (λ i. length-set values i value))

beside : (s values : List ℤ) (r : Result (List ℤ) Why) → IfOk r (λ r. length r ≡ length values)
    → IfOk (r >>= λ r. Ok (s, r)) (AsLong values)
beside s values (Ok r) long = long
beside s values (Err e) long = tt

ws_kept : (t : Tolerance) (s storage : List ℤ) → IfOk (ws t s storage) (AsLong storage)
ws_kept t (value ∷ n ∷ s) storage = beside s storage _ (set_kept t n value storage why.StorageRange)
ws_kept t (n ∷ []) storage = tt
ws_kept t [] storage = tt

wcvtp_kept : (t : Tolerance) (s cvt : List ℤ) → IfOk (wcvtp t s cvt) (AsLong cvt)
wcvtp_kept t (value ∷ n ∷ s) cvt = beside s cvt _ (set_kept t n value cvt why.CvtRange)
wcvtp_kept t (n ∷ []) cvt = tt
wcvtp_kept t [] cvt = tt

wcvtf_kept : (scale : Scale) (t : Tolerance) (s cvt : List ℤ) → IfOk (wcvtf scale t s cvt) (AsLong cvt)
wcvtf_kept scale t (units ∷ n ∷ s) cvt =
    unless (AsLong cvt) t (s, cvt) _ refl
    (after (AsLong cvt) (place n (length cvt) why.CvtRange) _ (λ i.
    after (AsLong cvt) (in_pixels scale units) _ (λ v. length-set cvt i v)))
wcvtf_kept scale t (n ∷ []) cvt = tt
wcvtf_kept scale t [] cvt = tt

abbrev Both : List ℤ → List ℤ → List ℤ × List ℤ × List ℤ → Type 0
Both storage cvt r = (length r.1 ≡ length storage) × (length r.2 ≡ length cvt)

stored : (storage cvt : List ℤ) (r : Result (List ℤ × List ℤ) Why) → IfOk r (AsLong storage)
    → IfOk (r >>= λ r. Ok (r.0, r.1, cvt)) (Both storage cvt)
stored storage cvt (Ok r) long = (long, refl)
stored storage cvt (Err why) long = tt

set : (storage cvt : List ℤ) (r : Result (List ℤ × List ℤ) Why) → IfOk r (AsLong cvt)
    → IfOk (r >>= λ r. Ok (r.0, storage, r.1)) (Both storage cvt)
set storage cvt (Ok r) long = (refl, long)
set storage cvt (Err why) long = tt

read : (storage cvt : List ℤ) (r : Result (List ℤ) Why) → IfOk (r >>= λ r. Ok (r, storage, cvt)) (Both storage cvt)
read storage cvt (Ok s) = (refl, refl)
read storage cvt (Err why) = tt

pub sizes_kept : (o : StoredValues) (scale : Scale) (t : Tolerance) (s storage cvt : List ℤ)
    → IfOk (values_accessed o scale t s storage cvt) (Both storage cvt)
sizes_kept op.Ws scale t s storage cvt = stored storage cvt (ws t s storage) (ws_kept t s storage)
sizes_kept op.Rs scale t s storage cvt = read storage cvt (rs t s storage)
sizes_kept op.Wcvtp scale t s storage cvt = set storage cvt (wcvtp t s cvt) (wcvtp_kept t s cvt)
sizes_kept op.Wcvtf scale t s storage cvt = set storage cvt (wcvtf scale t s cvt) (wcvtf_kept scale t s cvt)
sizes_kept op.Rcvt scale t s storage cvt = read storage cvt (rcvt t s cvt)
