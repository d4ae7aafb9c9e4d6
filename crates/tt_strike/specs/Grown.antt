-- No part of the standard: a line's picture enlarged on each side so that no ink is cut (profile).
use Rattle.std.specs.Prelude.{◌≡◌, refl, ℕ, suc, ◌+◌, ◌-◌, nat_lt, ◌||◌, if◌then◌else◌, ℤ, pos, negsuc, ◌+ℤ◌, [], ◌∷◌, map, Option, Some, None, Result, Ok, Err}
use Rattle.tt_core.specs.declared.fault.JobFault.{JobFault}
use Rattle.tt_core.specs.declared.fault.JobFault.TheVariants as fault
use Rattle.tt_core.specs.Limits.{height_limit, width_limit}
use Rattle.tt_core.specs.Outcomes.{◌>>=◌}
use Rattle.tt_line.specs.Layout.{Placement}
use Rattle.tt_strike.specs.Job.{Job}
use Rattle.tt_strike.specs.Measures.{Measure, measured_line}
use Rattle.tt_strike.specs.Picture.{drawn, laid_out}
use Rattle.tt_strike.specs.Refusals.{Refused, as_job}
use Rattle.tt_face.specs.Faces.{Face}
use Rattle.tt_strike.specs.declared.growing.Sides.{Sides}
use Rattle.tt_picture.specs.Pictures.{Image}
use Rattle.tt_picture.specs.declared.ink_box.InkBox.{InkBox}

-- how many columns or rows a place lies before the first, and past the last of this many
abbrev pub before : ℤ → ℕ
before (pos n) = 0
before (negsuc n) = suc n

abbrev pub past : ℕ → ℤ → ℕ
past count (pos n) = (n + 1) - count
past count (negsuc n) = 0

-- the fewest columns and rows that a picture of this size lacks on each side to hold a box
abbrev pub lacking : ℕ → ℕ → InkBox → Sides
lacking width height b = record {
  left = before b.left;
  top = before b.top;
  right = past width b.right;
  bottom = past height b.bottom;
}

-- a line with these columns and rows added on each side
abbrev pub with_sides : Placement → Sides → Placement
with_sides line s = record {
  width = line.width + s.left + s.right;
  height = line.height + s.top + s.bottom;
  rise = line.rise +ℤ pos s.top;
  glyphs = map (λ g. (g.0, g.1 + s.left)) line.glyphs;
}

-- a picture that is too large is refused
unfoldable pub not_large : Placement → Result Placement JobFault
not_large line =
    if nat_lt width_limit line.width || nat_lt height_limit line.height then Err fault.PictureLarge else Ok line

-- a line in whose picture this ink is not cut
abbrev pub grown : Placement → Option InkBox → Result Placement JobFault
grown line None = Ok line
grown line (Some b) = not_large (with_sides line (lacking line.width line.height b))

-- a line that is laid out, in whose picture no ink is cut
unfoldable pub grown_line : Face → Job → Placement → Result Placement Refused
grown_line face a line = measured_line face a line >>= λ m. as_job (grown line m.ink)

-- the enlarged line of a text by a font's tables, or the first refusal
unfoldable pub grown_placement : Face → Job → Result Placement Refused
grown_placement face a = laid_out face a >>= λ line. grown_line face a line

-- the picture of the enlarged line
unfoldable pub grown_outcome : Face → Job → Result Image Refused
grown_outcome face a = grown_placement face a >>= λ line. drawn face a line

-- the measure of the enlarged line's picture
unfoldable pub grown_measured : Face → Job → Result Measure Refused
grown_measured face a = grown_placement face a >>= λ line. measured_line face a line

-- worked values: ink from two columns before the first to the last but one, and from the first row to one past the last
two_glyphs : Placement
two_glyphs = record { width = 9; height = 5; rise = pos 2; glyphs = (7, 0) ∷ (3, 4) ∷ [] }

wide_ink : InkBox
wide_ink = record { left = negsuc 1; top = pos 0; right = pos 7; bottom = pos 5 }

left_and_below : grown two_glyphs (Some wide_ink)
    ≡ Ok (record { width = 11; height = 6; rise = pos 2; glyphs = (7, 2) ∷ (3, 6) ∷ [] })
unfolding two_glyphs wide_ink not_large
left_and_below = refl

above : grown two_glyphs (Some (record { left = pos 0; top = negsuc 0; right = pos 8; bottom = pos 4 }))
    ≡ Ok (record { width = 9; height = 6; rise = pos 3; glyphs = (7, 0) ∷ (3, 4) ∷ [] })
unfolding two_glyphs not_large
above = refl

too_far : grown two_glyphs (Some (record wide_ink { right = pos 16382 })) ≡ Err fault.PictureLarge
unfolding two_glyphs wide_ink not_large
too_far = refl
