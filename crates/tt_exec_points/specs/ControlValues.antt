-- Apple TrueType Reference Manual, "Instruction Set" (DELTAC1 to DELTAC3): exceptions for control values. The stack has
-- its top first.
use Rattle.std.specs.Prelude.{◌≡◌, ℕ, ℤ, pos, ◌+ℤ◌, if◌then◌else◌, List, [], ◌∷◌, length, get_or, slice_set, reverse, Option, Some, None, Result, Ok, Err, refl}
use Rattle.tt_core.specs.Outcomes.{◌>>=◌}
use Rattle.tt_core.specs.declared.fault.Why.{Why}
use Rattle.tt_core.specs.declared.fault.Why.TheVariants as why
use Rattle.tt_state.specs.GraphicsState.{default_state}
use Rattle.tt_state.specs.declared.graphics_state.GraphicsState.{GraphicsState}
use Rattle.tt_state.specs.Tolerance.{unless_missing}
use Rattle.tt_state.specs.declared.tolerance.Tolerance.{Tolerance}
use Rattle.tt_state.specs.declared.tolerance.Tolerance.TheVariants as tolerance
use Rattle.tt_exec_state.specs.StoredValues.{place}
use Rattle.tt_exec_stack.specs.Stack.{is_value}
use Rattle.tt_points_loops.specs.declared.deltas.DeltaRange.{DeltaRange}
use Rattle.tt_points_loops.specs.declared.deltas.DeltaRange.TheVariants as ranges
use Rattle.tt_points_loops.specs.Deltas.{delta_of, pairs_of}
use Rattle.tt_points_loops.specs.Series.{one_by_one}
use Rattle.tt_exec_points.specs.Popping.{counted}

-- a number that fits 32 bits
abbrev pub value_of : ℤ → Result ℤ Why
value_of v = if is_value v then Ok v else Err why.ValueRange

-- a control value with an exception added, if there is one
abbrev pub change_by : Option ℤ → ℤ → List ℤ → Result (List ℤ) Why
change_by None n cvt = Ok cvt
change_by (Some d) n cvt = place n (length cvt) why.CvtRange >>= λ i.
    value_of (get_or cvt i (pos 0) +ℤ d) >>= λ v. Ok (slice_set cvt i v)

-- a pair of an argument and a number
abbrev pub change_pair : Tolerance → DeltaRange → ℕ → GraphicsState → ℤ × ℤ → List ℤ → Result (List ℤ) Why
change_pair t range ppem g pair cvt = delta_of t range pair.0 ppem g >>= λ d. change_by d pair.1 cvt

-- a tolerant machine passes over a pair whose control value is missing
abbrev pub change : Tolerance → DeltaRange → ℕ → GraphicsState → ℤ × ℤ → List ℤ → Result (List ℤ) Why
change t range ppem g pair cvt = unless_missing t cvt (change_pair t range ppem g pair cvt)

-- each pair in turn; the earlier ones are done before a later one is refused
abbrev pub changes : Tolerance → DeltaRange → ℕ → GraphicsState → List (ℤ × ℤ) → List ℤ → Result (List ℤ) Why
changes t range ppem g pairs cvt = one_by_one (change t range ppem g) pairs cvt

-- the pairs on the stack, in the order of their pops
abbrev pub popped : List ℤ → List (ℤ × ℤ)
popped entries = reverse (pairs_of entries)

-- the stack and the control values
abbrev pub deltac : Tolerance → DeltaRange → ℕ → List ℤ → GraphicsState → List ℤ → Result (List ℤ × List ℤ) Why
deltac t range ppem s g cvt = counted t s >>= λ c. changes t range ppem g (popped c.0) cvt >>= λ v. Ok (c.1, v)

-- worked values
abbrev first : Tolerance → ℕ → List ℤ → Result (List ℤ × List ℤ) Why
first t ppem s = deltac t ranges.First ppem s default_state (pos 100 ∷ [])

a_value_at_its_size : first tolerance.Strict 16 (pos 1 ∷ pos 0 ∷ pos 0x7F ∷ []) ≡ Ok ([], pos 164 ∷ [])
a_value_at_its_size = refl

no_value_one : first tolerance.Strict 16 (pos 1 ∷ pos 1 ∷ pos 0x7F ∷ []) ≡ Err why.CvtRange
no_value_one = refl

no_value_needed_at_other_sizes : first tolerance.Strict 17 (pos 1 ∷ pos 1 ∷ pos 0x7F ∷ []) ≡ Ok ([], pos 100 ∷ [])
no_value_needed_at_other_sizes = refl

no_value_one_passed_over : first tolerance.Tolerant 16 (pos 2 ∷ pos 0 ∷ pos 0x7F ∷ pos 1 ∷ pos 0x7F ∷ [])
    ≡ Ok ([], pos 164 ∷ [])
no_value_one_passed_over = refl
