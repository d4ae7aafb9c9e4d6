-- OpenType, "The 'glyf' table", "Composite Glyph Description": a component is transformed, then moved by an offset or
-- by matching two points.
use Rattle.std.specs.Prelude.{◌≡◌, ℕ, Bool, true, if◌then◌else◌, ℤ, pos, negsuc, neg_ℤ, ◌+ℤ◌, ◌-ℤ◌, ◌*ℤ◌, List, Option, Some, None, Result, Ok, Err, refl}
use Rattle.std.specs.List.{slice_get}
use Rattle.tt_core.specs.Faults.{Fault}
use Rattle.tt_core.specs.declared.fault.Why.TheVariants as why
use Rattle.tt_core.specs.Numbers.{rounded_quotient}
use Rattle.tt_core.specs.Scales.{away_quotient}
use Rattle.tt_core.specs.declared.halves.Halves.{Halves}
use Rattle.tt_core.specs.declared.halves.Halves.TheVariants as halves
use Rattle.tt_glyf.specs.Composite.{one}
use Rattle.tt_glyf.specs.Format.{args_are_xy_values, round_xy_to_grid, has}
use Rattle.tt_glyf.specs.declared.raw.Record.{Record}
use Rattle.tt_fit_outline.specs.declared.grid.Grid.{Grid}
use Rattle.tt_fit_outline.specs.declared.grid.Grid.TheVariants as rounding
use Rattle.tt_fit_outline.specs.Grid.{rounded_to}
use Rattle.tt_fit_outline.specs.Scaling.{glyf_fault, settled}
use Rattle.tt_fit_outline.specs.declared.rules.Scaling.TheVariants as scaling
use Rattle.tt_fit_outline.specs.Size.{FontSize, scale, size_by}

-- One coordinate under a transform: a factor of x and a factor of y, in 2.14. With halves up the sum of the products is
-- rounded; with halves away from zero each product is (profile)
abbrev pub blended : Halves → ℤ → ℤ → ℤ × ℤ × Bool → ℤ
blended halves.Up x y p = rounded_quotient (x *ℤ p.0 +ℤ y *ℤ p.1) one
blended halves.AwayFromZero x y p = away_quotient (x *ℤ p.0) one +ℤ away_quotient (y *ℤ p.1) one

-- a point under a component's transform
abbrev pub transformed : Halves → Record → ℤ × ℤ × Bool → ℤ × ℤ
transformed h r p = (blended h r.xx r.xy p, blended h r.yx r.yy p)

-- an argument as an offset, by the glyph's grid where the record says so
abbrev pub offset_along : Grid → FontSize → Record → ℤ → ℤ
offset_along by z r v = if has r.flags round_xy_to_grid then rounded_to by (scale z v) else scale z v

abbrev pub offset_of : Grid → FontSize → Record → ℤ × ℤ
offset_of by z r = (offset_along by z r r.arg1, offset_along by z r r.arg2)

-- the point with this number, if there is one
abbrev pub point_of : List (ℤ × ℤ × Bool) → ℤ → Option (ℤ × ℤ × Bool)
point_of ps (pos n) = slice_get ps n
point_of ps (negsuc n) = None

-- the shift from a component's point, transformed, to another point
abbrev pub onto : Halves → Record → ℤ × ℤ × Bool → ℤ × ℤ × Bool → ℤ × ℤ
onto h r p q = (q.0 -ℤ (transformed h r p).0, q.1 -ℤ (transformed h r p).1)

-- the shift from the component's point to a point assembled so far; both must exist
abbrev pub matched_by : Halves → Record → Option (ℤ × ℤ × Bool) → Option (ℤ × ℤ × Bool) → Result (ℤ × ℤ) Fault
matched_by h r (Some p) (Some q) = Ok (onto h r p q)
matched_by h r (Some p) None = Err (glyf_fault r.at why.MatchPoint)
matched_by h r None q = Err (glyf_fault r.at why.MatchPoint)

-- a component's shift, by its own points and the points assembled so far
unfoldable pub shift_of : Grid → FontSize → Record → List (ℤ × ℤ × Bool) → List (ℤ × ℤ × Bool) → Result (ℤ × ℤ) Fault
shift_of by z r component points =
    if has r.flags args_are_xy_values then Ok (offset_of by z r)
    else matched_by z.scale.halves r (point_of component r.arg2) (point_of points r.arg1)

abbrev pub landed : Halves → Record → ℤ × ℤ → ℤ × ℤ × Bool → ℤ × ℤ × Bool
landed h r by p = ((transformed h r p).0 +ℤ by.0, (transformed h r p).1 +ℤ by.1, p.2)

-- a point of a component in its place
abbrev pub placed_point : Halves → Record → ℤ × ℤ → ℤ × ℤ × Bool → Result (ℤ × ℤ × Bool) Fault
placed_point h r by p = settled r.at (landed h r by p)

-- worked values: 256 units in an em, at 16 pixels
its_size : FontSize
its_size = size_by scaling.Exact 16 256

-- moved by 10 and -10 units without a transform
moved : ℕ → Record
moved flags = record { at = 32; flags = flags; glyph = 1; arg1 = pos 10; arg2 = neg_ℤ (pos 10); xx = one; yx = pos 0; xy = pos 0; yy = one }

an_offset : offset_of rounding.Away its_size (moved 0x2) ≡ (pos 40, neg_ℤ (pos 40))
unfolding its_size moved
an_offset = refl

a_rounded_offset : offset_of rounding.Away its_size (moved 0x6) ≡ (pos 64, neg_ℤ (pos 64))
unfolding its_size moved
a_rounded_offset = refl

-- moved by 8 and -8 units: half a pixel each
by_a_half : Record
by_a_half = record (moved 0x6) { arg1 = pos 8; arg2 = neg_ℤ (pos 8) }

a_half_away : offset_of rounding.Away its_size by_a_half ≡ (pos 64, neg_ℤ (pos 64))
unfolding its_size moved by_a_half
a_half_away = refl

a_half_up : offset_of rounding.Up its_size by_a_half ≡ (pos 64, pos 0)
unfolding its_size moved by_a_half
a_half_up = refl

-- by -24 units: a pixel and a half
more_than_a_pixel : offset_along rounding.Up its_size (moved 0x6) (neg_ℤ (pos 24)) ≡ neg_ℤ (pos 64)
unfolding its_size moved
more_than_a_pixel = refl

-- where hinting is off, the flag has no effect
unrounded : offset_of rounding.Unrounded its_size by_a_half ≡ (pos 32, neg_ℤ (pos 32))
unfolding its_size moved by_a_half
unrounded = refl

-- turned by a quarter: x' = -y and y' = x; flagged for offsets, or its point 1 onto point 0
turned : ℕ → Record
turned flags = record
    { at = 32; flags = flags; glyph = 1; arg1 = pos 0; arg2 = pos 1; xx = pos 0; yx = one; xy = neg_ℤ one; yy = pos 0 }

a_quarter_turn : transformed halves.Up (turned 0x2) (pos 100, pos 7, true) ≡ (neg_ℤ (pos 7), pos 100)
unfolding turned
a_quarter_turn = refl

a_quarter_turn_away : transformed halves.AwayFromZero (turned 0x2) (pos 100, pos 7, true) ≡ (neg_ℤ (pos 7), pos 100)
unfolding turned
a_quarter_turn_away = refl

-- factors of halves and quarters: x' = 3/2 x - 1/4 y and y' = -1/2 x + 5/4 y
leaning : Record
leaning = record (moved 0x82)
    { xx = pos 24576; yx = neg_ℤ (pos 8192); xy = neg_ℤ (pos 4096); yy = pos 20480 }

-- the products of (1, 2) are 1.5 and -0.5, then -0.5 and 2.5
halves_of_both_signs : transformed halves.AwayFromZero leaning (pos 1, pos 2, true) ≡ (pos 1, pos 2)
unfolding leaning moved
halves_of_both_signs = refl

-- those of (-1, -2) have the other signs
halves_turned_round : transformed halves.AwayFromZero leaning (neg_ℤ (pos 1), neg_ℤ (pos 2), true)
    ≡ (neg_ℤ (pos 1), neg_ℤ (pos 2))
unfolding leaning moved
halves_turned_round = refl

-- those of (1, -2) are 1.5 and 0.5, then -0.5 and -2.5: the sums are 2 and -3
two_halves_alike : transformed halves.AwayFromZero leaning (pos 1, neg_ℤ (pos 2), true) ≡ (pos 3, neg_ℤ (pos 4))
unfolding leaning moved
two_halves_alike = refl

their_sums : transformed halves.Up leaning (pos 1, neg_ℤ (pos 2), true) ≡ (pos 2, neg_ℤ (pos 3))
unfolding leaning moved
their_sums = refl

-- those of (3, 1) are 4.5 and -0.25, then -1.5 and 1.25: the sums are 4.25 and -0.25
a_half_and_a_quarter : transformed halves.AwayFromZero leaning (pos 3, pos 1, true) ≡ (pos 5, neg_ℤ (pos 1))
unfolding leaning moved
a_half_and_a_quarter = refl

the_sum_of_both : transformed halves.Up leaning (pos 3, pos 1, true) ≡ (pos 4, pos 0)
unfolding leaning moved
the_sum_of_both = refl

-- the shift that takes (1, -2), which lands on (3, -4), to (10, 20)
a_match_away : onto halves.AwayFromZero leaning (pos 1, neg_ℤ (pos 2), true) (pos 10, pos 20, true) ≡ (pos 7, pos 24)
unfolding leaning moved
a_match_away = refl

a_match_up : onto halves.Up leaning (pos 1, neg_ℤ (pos 2), true) (pos 10, pos 20, true) ≡ (pos 8, pos 23)
unfolding leaning moved
a_match_up = refl
