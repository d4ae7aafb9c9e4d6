-- Apple TrueType Reference Manual, "Instruction set": managing exceptions (DELTAP1 to DELTAP3, DELTAC1 to DELTAC3).
-- Distances are in 26.6 pixels, sizes in pixels per em.
use Rattle.std.specs.Prelude.{◌≡◌, ℕ, ◌/◌, ◌%◌, ◌-◌, ◌^◌, ◌||◌, nat_lt, ℤ, pos, negsuc, ◌+ℤ◌, ◌-ℤ◌, ◌*ℤ◌, int_lt, unsigned_abs, Bool, true, false, if◌then◌else◌, List, [], ◌∷◌, reverse, Option, Some, None, Result, Ok, Err, refl}
use Rattle.std.specs.Int.{int_rem_euclid}
use Rattle.std.specs.Ordering.{int_eq}
use Rattle.tt_core.specs.Outcomes.{◌>>=◌}
use Rattle.tt_core.specs.declared.fault.Why.{Why}
use Rattle.tt_core.specs.declared.fault.Why.TheVariants as why
use Rattle.tt_core.specs.declared.halves.Halves.TheVariants as halves
use Rattle.tt_state.specs.GraphicsState.{default_state}
use Rattle.tt_state.specs.Vectors.{project}
use Rattle.tt_state.specs.declared.graphics_state.GraphicsState.{GraphicsState}
use Rattle.tt_state.specs.declared.point.Point.{Point}
use Rattle.tt_state.specs.declared.tolerance.Tolerance.{Tolerance}
use Rattle.tt_state.specs.declared.tolerance.Tolerance.TheVariants as tolerance
use Rattle.tt_points_zones.specs.Motions.{direction, moved}
use Rattle.tt_points_zones.specs.Points.{point_in, with_point, origin}
use Rattle.tt_points_zones.specs.Zones.{ZoneLists, in_pixels}
use Rattle.tt_points_loops.specs.declared.deltas.DeltaRange.{DeltaRange}
use Rattle.tt_points_loops.specs.declared.deltas.DeltaRange.TheVariants as ranges
use Rattle.tt_points_loops.specs.Series.{one_by_one, passing_over}
use Rattle.tt_points_loops.specs.Slanted.{rising, slanted, at_first, moved_on}

-- the distance of a range's first size from the delta base
abbrev pub sizes_passed : DeltaRange → ℤ
sizes_passed ranges.First = pos 0
sizes_passed ranges.Second = pos 16
sizes_passed ranges.Third = pos 32

-- bits 7 to 4 of an argument: the size
abbrev pub size_of : DeltaRange → ℕ → GraphicsState → ℤ
size_of range argument g = (g.delta_base +ℤ sizes_passed range) +ℤ pos (argument / 16)

-- bits 3 to 0: 0 to 7 are -8 to -1 steps, 8 to 15 are 1 to 8
abbrev pub steps_of : ℕ → ℤ
steps_of argument =
    if nat_lt (argument % 16) 8 then pos (argument % 16) -ℤ pos 8 else pos (argument % 16) -ℤ pos 7

-- one step; SDS refuses a delta shift above 6
abbrev pub step_of : GraphicsState → ℤ
step_of g = pos (2 ^ (6 - g.delta_shift))

-- An argument as a byte. Another argument has no meaning (profile); a tolerant machine takes its low byte.
abbrev pub byte_of : Tolerance → ℤ → Result ℕ Why
byte_of tolerance.Strict argument =
    if int_lt argument (pos 0) || int_lt (pos 255) argument then Err why.BadArgument else Ok (unsigned_abs argument)
byte_of tolerance.Tolerant argument = Ok (unsigned_abs (int_rem_euclid argument (pos 256)))

-- the move that a byte requests at its size, None at others
abbrev pub exception_at : DeltaRange → ℕ → ℕ → GraphicsState → Option ℤ
exception_at range byte ppem g =
    if int_eq (size_of range byte g) (pos ppem) then Some (steps_of byte *ℤ step_of g) else None

-- the move that an argument requests at a size
abbrev pub delta_of : Tolerance → DeltaRange → ℤ → ℕ → GraphicsState → Result (Option ℤ) Why
delta_of t range argument ppem g = byte_of t argument >>= λ byte. Ok (exception_at range byte ppem g)

-- a point of zp0 after this move, if there is one
abbrev pub move_by : Option ℤ → GraphicsState → ℤ → ZoneLists → Result ZoneLists Why
move_by None g n z = Ok z
move_by (Some d) g n z =
    point_in g.zp0 n z >>= λ p. direction g >>= λ m. moved m d p >>= λ q. Ok (with_point g.zp0 n q z)

abbrev pub except : Tolerance → DeltaRange → ℕ → GraphicsState → ℤ × ℤ → ZoneLists → Result ZoneLists Why
except t range ppem g pair z = delta_of t range pair.0 ppem g >>= λ d. move_by d g pair.1 z

-- pairs of an argument and a point's number, in their order on the stack
abbrev pub pairs_of : List ℤ → List (ℤ × ℤ)
pairs_of (argument ∷ n ∷ rest) = (argument, n) ∷ pairs_of rest
pairs_of _ = []

-- DELTAP1, DELTAP2 and DELTAP3; the last pair is popped first
abbrev pub deltap : Tolerance → DeltaRange → ℕ → List ℤ → ZoneLists → GraphicsState → Result ZoneLists Why
deltap t range ppem pairs z g = one_by_one (passing_over t (except t range ppem g)) (reverse (pairs_of pairs)) z

-- worked values
eight_steps_up : delta_of tolerance.Strict ranges.First (pos 0x7F) 16 default_state ≡ Ok (Some (pos 64))
eight_steps_up = refl

eight_steps_down : delta_of tolerance.Strict ranges.Second (pos 0x70) 32 (record default_state { delta_shift = 6 })
    ≡ Ok (Some (negsuc 7))
eight_steps_down = refl

another_size : delta_of tolerance.Strict ranges.Third (pos 0x7F) 16 default_state ≡ Ok None
another_size = refl

past_a_byte : delta_of tolerance.Strict ranges.First (pos 256) 1 default_state ≡ Err why.BadArgument
past_a_byte = refl

the_low_byte : delta_of tolerance.Tolerant ranges.First (pos 0x17F) 16 default_state ≡ Ok (Some (pos 64))
the_low_byte = refl

below_0 : delta_of tolerance.Tolerant ranges.First (negsuc 0) 24 default_state ≡ Ok (Some (pos 64))
below_0 = refl

abbrev point : ℤ → Bool → Point
point x touched = record origin { x = x; touched_x = touched }

abbrev glyph : List Point → ZoneLists
glyph ps = record { twilight = []; glyph = ps; contours = []; originals = in_pixels halves.Up }

a_point_at_its_size : deltap tolerance.Strict ranges.First 16 (pos 0x7F ∷ pos 0 ∷ pos 0x6F ∷ pos 9 ∷ [])
    (glyph (point (pos 1) false ∷ [])) default_state
    ≡ Ok (glyph (point (pos 65) true ∷ []))
unfolding direction project
a_point_at_its_size = refl

last_pair_first : deltap tolerance.Strict ranges.First 16 (pos 256 ∷ pos 0 ∷ pos 0x7F ∷ pos 1 ∷ [])
    (glyph (point (pos 1) false ∷ [])) default_state
    ≡ Err why.PointRange
last_pair_first = refl

a_point_passed_over : deltap tolerance.Tolerant ranges.First 16 (pos 0x7F ∷ pos 50 ∷ pos 0x7F ∷ pos 0 ∷ [])
    (glyph (point (pos 192) false ∷ [])) default_state
    ≡ Ok (glyph (point (pos 256) true ∷ []))
unfolding direction project
a_point_passed_over = refl

four_steps_along_a_line : deltap tolerance.Strict ranges.First 16 (pos 0x7B ∷ pos 0 ∷ []) (glyph (at_first ∷ []))
    (slanted rising)
    ≡ Ok (glyph (moved_on (pos 64) (pos 119) true true ∷ []))
unfolding direction project
four_steps_along_a_line = refl
