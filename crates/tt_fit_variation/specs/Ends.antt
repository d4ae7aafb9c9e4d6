-- OpenType, "gvar", "Point numbers and processing for composite glyphs" (phantom points): the ends of an advance, the
-- ascent and the descent at an instance. Of their deltas those along the axis of each count (profile).
use Rattle.std.specs.Prelude.{◌≡◌, refl, ℕ, ◌+◌, Bool, true, false, ◌&&◌, nat_le, if◌then◌else◌, ℤ, pos, negsuc, ◌+ℤ◌, ◌-ℤ◌, ◌*ℤ◌, unsigned_abs, List, [], ◌∷◌, map, slice_get, Option, Some, None, Result, Ok, Err}
use Rattle.std.specs.Int.{int_div_euclid, int_max, int_min}
use Rattle.tt_core.specs.declared.scaling.Scale.{Scale}
use Rattle.tt_core.specs.Scales.{rounded_scale}
use Rattle.tt_core.specs.Faults.{Fault}
use Rattle.tt_axes.specs.Rounding.{sixty_fourths, whole_units}
use Rattle.tt_deltas.specs.declared.varied.Varied.{Varied}
use Rattle.tt_deltas.specs.Glyphs.{VariedPoints}
use Rattle.tt_fit_outline.specs.Outline.{PhantomPoints}
use Rattle.tt_fit_outline.specs.Scaling.{coordinate_fault}
use Rattle.tt_fit_variation.specs.Fine.{fine_scaled}

-- the deltas of the phantom points that count, in 1/65536 of a font unit
pub record EndDeltas : Type 0 where
  pub left : ℤ
  pub right : ℤ
  pub ascent : ℤ
  pub descent : ℤ

abbrev pub delta_of : Option Varied → ℤ
delta_of None = pos 0
delta_of (Some v) = v.delta

abbrev pub delta_at : List Varied → ℕ → ℤ
delta_at vs i = delta_of (slice_get vs i)

-- those of a glyph with so many points or components. Where HVAR gives the advance, its right end does not move by gvar
abbrev pub end_deltas : Bool → ℕ → VariedPoints → EndDeltas
end_deltas by_hvar n v = record {
  left = delta_at v.xs n;
  right = if by_hvar then pos 0 else delta_at v.xs (n + 1);
  ascent = delta_at v.ys (n + 2);
  descent = delta_at v.ys (n + 3);
}

-- the greatest coordinate of a phantom point in font units (profile)
abbrev pub end_limit : ℕ
end_limit = 131071

abbrev pub is_end : ℤ → Bool
is_end v = nat_le (unsigned_abs v) end_limit

abbrev pub are_ends : PhantomPoints → Bool
are_ends p = is_end p.left.0 && (is_end p.right.0 && (is_end p.ascent.1 && is_end p.descent.1))

abbrev pub moved_ends : PhantomPoints → EndDeltas → PhantomPoints
moved_ends p d = record {
  left = (p.left.0 +ℤ whole_units d.left, pos 0);
  right = (p.right.0 +ℤ whole_units d.right, pos 0);
  ascent = (pos 0, p.ascent.1 +ℤ whole_units d.ascent);
  descent = (pos 0, p.descent.1 +ℤ whole_units d.descent);
}

-- in whole font units, of a glyph that begins at an offset in glyf
unfoldable pub ends_in_units : ℕ → PhantomPoints → EndDeltas → Result PhantomPoints Fault
ends_in_units at p d = if are_ends (moved_ends p d) then Ok (moved_ends p d) else Err (coordinate_fault at)

-- in 26.6 pixels: those of a simple glyph are scaled from 64ths of a font unit
abbrev pub fine_end : Scale → ℤ → ℤ → ℤ
fine_end s v d = fine_scaled s (pos 64 *ℤ v +ℤ sixty_fourths d)

abbrev pub fine_ends : Scale → PhantomPoints → EndDeltas → PhantomPoints
fine_ends s p d = record {
  left = (fine_end s p.left.0 d.left, pos 0);
  right = (fine_end s p.right.0 d.right, pos 0);
  ascent = (pos 0, fine_end s p.ascent.1 d.ascent);
  descent = (pos 0, fine_end s p.descent.1 d.descent);
}

-- the nearest number that a uint16 holds
abbrev pub kept : ℤ → ℕ
kept z = unsigned_abs (int_max (pos 0) (int_min z (pos 65535)))

-- an advance without HVAR: from end to end, to whole font units, a half up (profile)
abbrev pub advance_by_ends : ℕ → EndDeltas → ℕ
advance_by_ends advance d =
    kept (int_div_euclid (pos 64 *ℤ pos advance +ℤ sixty_fourths d.right -ℤ sixty_fourths d.left +ℤ pos 32) (pos 64))

-- worked values: an advance of 256 whose right end moves by 64 units, by half of a unit, by -1/2, by half of a 64th less, by
-- more than that, and by 64 while the left end moves by 16; and by -300 units
abbrev by : ℤ → ℤ → EndDeltas
by left right = record { left = left; right = right; ascent = pos 0; descent = pos 0 }

advances : map (advance_by_ends 256) (by (pos 0) (pos 4194304) ∷ by (pos 0) (pos 32768) ∷ by (pos 0) (negsuc 32767) ∷ by (pos 0) (negsuc 33279) ∷ by (pos 0) (negsuc 33280) ∷ by (pos 1048576) (pos 4194304) ∷ by (pos 0) (negsuc 19660799) ∷ [])
    ≡ 320 ∷ 257 ∷ 256 ∷ 256 ∷ 255 ∷ 304 ∷ 0 ∷ []
advances = refl

-- two points, and phantom points whose deltas are all 1, 2, 3 and 4
abbrev its_deltas : VariedPoints
its_deltas = record {
  xs = map (λ d. record { at = pos 0; delta = d }) (pos 7 ∷ pos 8 ∷ pos 1 ∷ pos 2 ∷ pos 3 ∷ pos 4 ∷ []);
  ys = map (λ d. record { at = pos 0; delta = d }) (pos 7 ∷ pos 8 ∷ pos 1 ∷ pos 2 ∷ pos 3 ∷ pos 4 ∷ []);
}

those_that_count : end_deltas false 2 its_deltas ∷ end_deltas true 2 its_deltas ∷ []
    ≡ record { left = pos 1; right = pos 2; ascent = pos 3; descent = pos 4 }
    ∷ record { left = pos 1; right = pos 0; ascent = pos 3; descent = pos 4 } ∷ []
those_that_count = refl

abbrev its_ends : ℤ → ℤ → PhantomPoints
its_ends left right = record { left = (left, pos 0); right = (right, pos 0); ascent = (pos 0, pos 200); descent = (pos 0, negsuc 49) }

in_units : ends_in_units 22 (its_ends (negsuc 9) (pos 246)) (by (pos 32768) (negsuc 32767)) ≡ Ok (its_ends (negsuc 8) (pos 246))
unfolding ends_in_units
in_units = refl

past_the_limit : map (λ right. ends_in_units 22 (its_ends (pos 0) right) (by (pos 0) (pos 65536))) (pos 131070 ∷ pos 131071 ∷ [])
    ≡ Ok (its_ends (pos 0) (pos 131071)) ∷ Err (coordinate_fault 22) ∷ []
unfolding ends_in_units
past_the_limit = refl

-- an advance stays a uint16
past_65535 : map (advance_by_ends 65535) (by (pos 0) (pos 32767) ∷ by (pos 0) (pos 65536) ∷ by (pos 65536) (pos 0) ∷ [])
    ≡ 65535 ∷ 65535 ∷ 65534 ∷ []
past_65535 = refl

-- both limits
below_the_limit : map (λ left. ends_in_units 22 (its_ends left (pos 0)) (by (negsuc 65535) (pos 0))) (negsuc 131069 ∷ negsuc 131070 ∷ [])
    ≡ Ok (its_ends (negsuc 131070) (pos 0)) ∷ Err (coordinate_fault 22) ∷ []
unfolding ends_in_units
below_the_limit = refl

-- 18.75 64ths of a pixel a unit: ends at 256 and at 34/64 more, an ascent of 256, and a descent of -1/64 unit
in_pixels : fine_ends (rounded_scale 300 1024) (record { left = (pos 256, pos 0); right = (pos 256, pos 0); ascent = (pos 0, pos 256); descent = (pos 0, pos 0) })
    (record { left = pos 0; right = pos 34405; ascent = pos 0; descent = negsuc 1023 })
    ≡ record { left = (pos 4800, pos 0); right = (pos 4810, pos 0); ascent = (pos 0, pos 4800); descent = (pos 0, pos 0) }
in_pixels = refl
