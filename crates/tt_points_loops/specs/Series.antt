-- Apple TrueType Reference Manual, "Graphics State" (loop): an instruction that works on several points, one by one.
use Rattle.std.specs.Prelude.{ℕ, suc, nat_le, nat_lt, ℤ, ◌&&◌, if◌then◌else◌, List, [], ◌∷◌, reverse, Result, Ok}
use Rattle.tt_core.specs.Outcomes.{◌>>=◌}
use Rattle.tt_core.specs.declared.fault.Why.{Why}
use Rattle.tt_state.specs.Tolerance.{unless_missing}
use Rattle.tt_state.specs.declared.graphics_state.GraphicsState.{GraphicsState}
use Rattle.tt_state.specs.declared.point.Point.{Point}
use Rattle.tt_state.specs.declared.tolerance.Tolerance.{Tolerance}
use Rattle.tt_points_zones.specs.Zones.{ZoneLists}

-- a step for each of some items in turn; the earlier steps are done before a later one is refused
abbrev pub one_by_one : {N S : Type 0} → (N → S → Result S Why) → List N → S → Result S Why
one_by_one step [] s = Ok s
one_by_one step (n ∷ ns) s = step n s >>= λ t. one_by_one step ns t

-- a step that a tolerant machine passes over where something is missing (profile)
abbrev pub passing_over : {N S : Type 0} → Tolerance → (N → S → Result S Why) → N → S → Result S Why
passing_over t step n s = unless_missing t s (step n s)

-- the loop variable, reset by each instruction that uses it
abbrev pub set_back : GraphicsState → GraphicsState
set_back g = record g { loops = 1 }

-- a step for each popped point; the last of the list is popped first
abbrev pub looped : Tolerance → (ℤ → ZoneLists → Result ZoneLists Why) → List ℤ → ZoneLists → GraphicsState
    → Result (ZoneLists × GraphicsState) Why
looped t step points z g = one_by_one (passing_over t step) (reverse points) z >>= λ w. Ok (w, set_back g)

-- a step for each point with a number from low to before past; the list begins at number i
abbrev pub each_from_to : ℕ → ℕ → (ℕ → Point → Result Point Why) → ℕ → List Point → Result (List Point) Why
each_from_to low past move i [] = Ok []
each_from_to low past move i (p ∷ ps) =
    (if nat_le low i && nat_lt i past then move i p else Ok p) >>= λ q.
    each_from_to low past move (suc i) ps >>= λ qs. Ok (q ∷ qs)
