-- The width of a row, which leaves out the blanks at its end (profile). Pairs are kerned within a row.
use Rattle.std.specs.Prelude.{◌≡◌, refl, ℕ, ◌+◌, ◌-◌, if◌then◌else◌, List, [], ◌∷◌, drop, map, take}
use Rattle.tt_rows.specs.declared.unit.RowUnit.{RowUnit}
use Rattle.tt_rows.specs.Classes.{is_blank}

-- a unit before the units of a row that are drawn
abbrev pub drawn_before : RowUnit → List RowUnit → List RowUnit
drawn_before u [] = if is_blank u.character then [] else u ∷ []
drawn_before u (v ∷ vs) = u ∷ v ∷ vs

-- the units of a row that are drawn: those without the blanks at its end
abbrev pub drawn : List RowUnit → List RowUnit
drawn [] = []
drawn (u ∷ us) = drawn_before u (drawn us)

-- the step of a unit before some others of its row; the last one is not kerned
abbrev pub step_before : RowUnit → List RowUnit → ℕ
step_before u [] = u.step
step_before u (v ∷ vs) = u.kerned

-- the glyphs of a row with their steps
abbrev pub stepped_row : List RowUnit → List (ℕ × ℕ)
stepped_row [] = []
stepped_row (u ∷ us) = (u.glyph, step_before u us) ∷ stepped_row us

-- the sum of their steps
abbrev pub drawn_width : List RowUnit → ℕ
drawn_width [] = 0
drawn_width (u ∷ us) = step_before u us + drawn_width us

-- the width of a row of these units
abbrev pub row_width : List RowUnit → ℕ
row_width us = drawn_width (drawn us)

-- the units of a line from unit `from` up to before unit `to`
abbrev pub part : List RowUnit → ℕ → ℕ → List RowUnit
part line from to = take (to - from) (drop from line)

-- worked values: letters that are 4 wide and kern to 3, and blanks that are 2 wide
abbrev letter : RowUnit
letter = record { character = 0x41; glyph = 1; step = 4; kerned = 3 }

abbrev blank : RowUnit
blank = record { character = 0x20; glyph = 2; step = 2; kerned = 2 }

no_row : row_width [] ≡ 0
no_row = refl

kerned_within : stepped_row (letter ∷ letter ∷ letter ∷ []) ≡ (1, 3) ∷ (1, 3) ∷ (1, 4) ∷ []
kerned_within = refl

-- the pair of the last letter and a blank is not kerned, since the blank is not drawn
blanks_at_the_end : map row_width ((letter ∷ letter ∷ []) ∷ (letter ∷ letter ∷ blank ∷ blank ∷ []) ∷ []) ≡ 7 ∷ 7 ∷ []
blanks_at_the_end = refl

blanks_before : row_width (blank ∷ blank ∷ letter ∷ []) ≡ 8
blanks_before = refl

blanks_alone : map drawn ((blank ∷ []) ∷ (blank ∷ blank ∷ []) ∷ []) ≡ [] ∷ [] ∷ []
blanks_alone = refl
