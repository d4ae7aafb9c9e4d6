-- Apple TrueType Reference Manual, "Instructing TrueType Glyphs": the stack before and after an instruction on points.
-- The stack has its top first.
use Rattle.std.specs.Prelude.{◌≡◌, ℕ, ◌*◌, ◌/◌, nat_lt, Bool, ◌&&◌, ◌||◌, not, length, ℤ, pos, negsuc, int_lt, unsigned_abs, if◌then◌else◌, List, [], ◌∷◌, drop, Result, Ok, Err, refl}
use Rattle.tt_core.specs.Outcomes.{◌>>=◌}
use Rattle.tt_core.specs.declared.fault.Why.{Why}
use Rattle.tt_core.specs.declared.fault.Why.TheVariants as why
use Rattle.tt_state.specs.declared.graphics_state.GraphicsState.{GraphicsState}
use Rattle.tt_state.specs.Tolerance.{is_tolerant}
use Rattle.tt_state.specs.declared.tolerance.Tolerance.{Tolerance}
use Rattle.tt_state.specs.declared.tolerance.Tolerance.TheVariants as tolerance
use Rattle.tt_exec_stack.specs.Stack.{top}
use Rattle.tt_points_loops.specs.Series.{set_back}
use Rattle.tt_points.specs.zones.Zones.{ZoneLists}

-- the stack, the zones and the graphics state, or a refusal
abbrev pub Left : Type 0
Left = Result (List ℤ × ZoneLists × GraphicsState) Why

-- after an instruction that changes zones and graphics state, or zones alone
abbrev pub after : List ℤ → Result (ZoneLists × GraphicsState) Why → Left
after s given = given >>= λ t. Ok (s, t.0, t.1)

abbrev pub after_move : List ℤ → GraphicsState → Result ZoneLists Why → Left
after_move s g given = given >>= λ z. Ok (s, z, g)

-- n entries, the top last, and the stack below them
abbrev pub taken : ℕ → List ℤ → Result (List ℤ × List ℤ) Why
taken n s = top n s >>= λ entries. Ok (entries, drop n s)

-- the loop variable reset, and all else unchanged
abbrev pub nothing_looped : List ℤ → ZoneLists → GraphicsState → List ℤ × ZoneLists × GraphicsState
nothing_looped s z g = (s, z, set_back g)

-- the reference point is missing, or the stack has fewer points than the loop variable
abbrev pub too_little : Bool → List ℤ → GraphicsState → Bool
too_little referred s g = not referred || nat_lt (length s) g.loops

-- An instruction applied to points from the stack, with or without its reference point. A tolerant machine takes no
-- point if there is too little (profile).
abbrev pub looped : Tolerance → Bool → List ℤ → ZoneLists → GraphicsState
    → (List ℤ → Result (ZoneLists × GraphicsState) Why) → Left
looped t referred s z g change =
    if is_tolerant t && too_little referred s g then Ok (nothing_looped s z g)
    else taken g.loops s >>= λ points. after points.1 (change points.0)

-- the count of entries for the count of pairs on top, and the stack below that
abbrev pub pairs_counted : List ℤ → Result (ℕ × List ℤ) Why
pairs_counted (n ∷ s) = if int_lt n (pos 0) then Err why.BadArgument else Ok (2 * unsigned_abs n, s)
pairs_counted [] = Err why.StackShort

-- the count of entries to take in pairs; if a tolerant machine has fewer, those of whole pairs (profile)
abbrev pub pairs_there : Tolerance → ℕ → List ℤ → ℕ
pairs_there t many s = if is_tolerant t && nat_lt (length s) many then length s / 2 * 2 else many

-- these entries, and the stack below all of them
abbrev pub taken_in_pairs : Tolerance → ℕ → List ℤ → Result (List ℤ × List ℤ) Why
taken_in_pairs t many s = top (pairs_there t many s) s >>= λ entries. Ok (entries, drop many s)

-- the counted pairs, and the stack below them
abbrev pub counted : Tolerance → List ℤ → Result (List ℤ × List ℤ) Why
counted t s = pairs_counted s >>= λ c. taken_in_pairs t c.0 c.1

-- worked values
one_pair : counted tolerance.Strict (pos 1 ∷ pos 7 ∷ pos 8 ∷ pos 9 ∷ []) ≡ Ok (pos 8 ∷ pos 7 ∷ [], pos 9 ∷ [])
one_pair = refl

no_second_pair : counted tolerance.Strict (pos 2 ∷ pos 7 ∷ pos 8 ∷ pos 9 ∷ []) ≡ Err why.StackShort
no_second_pair = refl

no_pairs_below_none : counted tolerance.Strict (negsuc 0 ∷ []) ≡ Err why.BadArgument
no_pairs_below_none = refl

one_pair_and_a_half : counted tolerance.Tolerant (pos 2 ∷ pos 7 ∷ pos 8 ∷ pos 9 ∷ []) ≡ Ok (pos 8 ∷ pos 7 ∷ [], [])
one_pair_and_a_half = refl
