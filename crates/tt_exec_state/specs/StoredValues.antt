-- Apple TrueType Reference Manual, "Instruction set": managing the storage area and the control value table. The top of
-- the stack comes first.
use Rattle.std.specs.Prelude.{◌≡◌, ℕ, ℤ, pos, int_lt, unsigned_abs, ◌||◌, nat_le, if◌then◌else◌, List, [], ◌∷◌, length, get_or, slice_set, Result, Ok, Err, refl}
use Rattle.tt_core.specs.Scales.{exact_scale}
use Rattle.tt_core.specs.declared.scaling.Scale.{Scale}
use Rattle.tt_core.specs.Outcomes.{◌>>=◌}
use Rattle.tt_core.specs.declared.fault.Why.{Why}
use Rattle.tt_core.specs.declared.fault.Why.TheVariants as why
use Rattle.tt_state.specs.Tolerance.{unless_missing}
use Rattle.tt_state.specs.declared.tolerance.Tolerance.{Tolerance}
use Rattle.tt_state.specs.declared.tolerance.Tolerance.TheVariants as tolerance
use Rattle.tt_exec_state.specs.declared.instruction.StoredValues.{StoredValues}
use Rattle.tt_exec_state.specs.declared.instruction.StoredValues.TheVariants as op
use Rattle.tt_exec_state.specs.Size.{in_pixels}
use Rattle.tt_exec_stack.specs.Stack.{pushed}

-- a number as an index below a length, or this refusal
abbrev pub place : ℤ → ℕ → Why → Result ℕ Why
place n many why = if int_lt n (pos 0) || nat_le many (unsigned_abs n) then Err why else Ok (unsigned_abs n)

-- the value at a place; a tolerant machine reads 0 for a missing place (profile)
abbrev pub value_at : Tolerance → ℤ → List ℤ → Why → Result ℤ Why
value_at t n values why =
    unless_missing t (pos 0) (place n (length values) why >>= λ i. Ok (get_or values i (pos 0)))

-- another value at a place; a tolerant machine ignores a missing place (profile)
abbrev pub value_set : Tolerance → ℤ → ℤ → List ℤ → Why → Result (List ℤ) Why
value_set t n value values why =
    unless_missing t values (place n (length values) why >>= λ i. Ok (slice_set values i value))

abbrev pub ws : Tolerance → List ℤ → List ℤ → Result (List ℤ × List ℤ) Why
ws t (value ∷ n ∷ s) storage = value_set t n value storage why.StorageRange >>= λ values. Ok (s, values)
ws t _ storage = Err why.StackShort

abbrev pub rs : Tolerance → List ℤ → List ℤ → Result (List ℤ) Why
rs t (n ∷ s) storage = value_at t n storage why.StorageRange >>= λ v. pushed v s
rs t [] storage = Err why.StackShort

abbrev pub wcvtp : Tolerance → List ℤ → List ℤ → Result (List ℤ × List ℤ) Why
wcvtp t (value ∷ n ∷ s) cvt = value_set t n value cvt why.CvtRange >>= λ values. Ok (s, values)
wcvtp t _ cvt = Err why.StackShort

-- a tolerant machine passes over a missing place before it scales (profile)
abbrev pub wcvtf : Scale → Tolerance → List ℤ → List ℤ → Result (List ℤ × List ℤ) Why
wcvtf scale t (units ∷ n ∷ s) cvt =
    unless_missing t (s, cvt) (place n (length cvt) why.CvtRange >>= λ i. in_pixels scale units >>= λ v.
    Ok (s, slice_set cvt i v))
wcvtf scale t _ cvt = Err why.StackShort

abbrev pub rcvt : Tolerance → List ℤ → List ℤ → Result (List ℤ) Why
rcvt t (n ∷ s) cvt = value_at t n cvt why.CvtRange >>= λ v. pushed v s
rcvt t [] cvt = Err why.StackShort

-- the stack, the storage area and the control values
abbrev pub values_accessed : StoredValues → Scale → Tolerance → List ℤ → List ℤ → List ℤ
    → Result (List ℤ × List ℤ × List ℤ) Why
values_accessed op.Ws scale t s storage cvt = ws t s storage >>= λ r. Ok (r.0, r.1, cvt)
values_accessed op.Rs scale t s storage cvt = rs t s storage >>= λ r. Ok (r, storage, cvt)
values_accessed op.Wcvtp scale t s storage cvt = wcvtp t s cvt >>= λ r. Ok (r.0, storage, r.1)
values_accessed op.Wcvtf scale t s storage cvt = wcvtf scale t s cvt >>= λ r. Ok (r.0, storage, r.1)
values_accessed op.Rcvt scale t s storage cvt = rcvt t s cvt >>= λ r. Ok (r, storage, cvt)

-- the count of values that an instruction takes
abbrev pub takes : StoredValues → ℕ
takes op.Rs = 1
takes op.Rcvt = 1
takes other = 2

-- worked values
value_on_top : ws tolerance.Strict (pos 7 ∷ pos 1 ∷ []) (pos 0 ∷ pos 0 ∷ []) ≡ Ok ([], pos 0 ∷ pos 7 ∷ [])
value_on_top = refl

an_em_as_a_control_value : wcvtf (exact_scale 16 1024) tolerance.Strict (pos 1024 ∷ pos 0 ∷ []) (pos 5 ∷ []) ≡ Ok ([], pos 1024 ∷ [])
an_em_as_a_control_value = refl

no_place_two : rs tolerance.Strict (pos 2 ∷ []) (pos 4 ∷ pos 4 ∷ []) ≡ Err why.StorageRange
no_place_two = refl

no_place_two_is_zero : rs tolerance.Tolerant (pos 2 ∷ []) (pos 4 ∷ pos 4 ∷ []) ≡ Ok (pos 0 ∷ [])
unfolding pushed
no_place_two_is_zero = refl

nothing_stored : ws tolerance.Tolerant (pos 7 ∷ pos 2 ∷ []) (pos 4 ∷ pos 4 ∷ []) ≡ Ok ([], pos 4 ∷ pos 4 ∷ [])
nothing_stored = refl

-- the control values 10, 20 and 30, with the numbers 0, 1 and 2
no_control_value_three : rcvt tolerance.Strict (pos 3 ∷ []) (pos 10 ∷ pos 20 ∷ pos 30 ∷ []) ≡ Err why.CvtRange
no_control_value_three = refl

no_control_value_three_is_zero : rcvt tolerance.Tolerant (pos 3 ∷ []) (pos 10 ∷ pos 20 ∷ pos 30 ∷ []) ≡ Ok (pos 0 ∷ [])
unfolding pushed
no_control_value_three_is_zero = refl

no_control_value_written : wcvtp tolerance.Strict (pos 80 ∷ pos 3 ∷ []) (pos 10 ∷ pos 20 ∷ pos 30 ∷ [])
    ≡ Err why.CvtRange
no_control_value_written = refl

the_control_values_left : wcvtp tolerance.Tolerant (pos 80 ∷ pos 3 ∷ []) (pos 10 ∷ pos 20 ∷ pos 30 ∷ [])
    ≡ Ok ([], pos 10 ∷ pos 20 ∷ pos 30 ∷ [])
the_control_values_left = refl

-- too many units to scale, for a missing place
passed_over_before_scaling : wcvtf (exact_scale 300 16) tolerance.Tolerant (pos 1789570 ∷ pos 3 ∷ []) (pos 10 ∷ [])
    ≡ Ok ([], pos 10 ∷ [])
passed_over_before_scaling = refl
