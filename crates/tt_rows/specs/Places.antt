-- The places of a label's rows in a picture of a given size (profile). What does not fit stands at a negative place.
use Rattle.std.specs.Prelude.{◌≡◌, refl, ℕ, ◌*◌, ℤ, pos, negsuc, ◌+ℤ◌, ◌-ℤ◌, [], ◌∷◌, map}
use Rattle.std.specs.Int.{int_div_euclid}
use Rattle.tt_line.specs.declared.align.Align.{Align}
use Rattle.tt_line.specs.declared.align.Align.TheVariants as align

-- the greatest whole number that is at most half of a number
abbrev pub half : ℤ → ℤ
half n = int_div_euclid n (pos 2)

-- the columns before a row, by those that it leaves of the room; this is negative for a row that is wider
abbrev pub indent_by : Align → ℤ → ℤ
indent_by align.Left rest = pos 0
indent_by align.Centre rest = half rest
indent_by align.Right rest = rest

-- the first column of a row of this width, in a picture whose room is between two margins
abbrev pub left_of : Align → ℕ → ℕ → ℕ → ℤ
left_of how margin room width = pos margin +ℤ indent_by how (pos room -ℤ pos width)

-- pixels from the top of a row to the bottom of another, `more` rows below
abbrev pub rows_height : ℕ → ℕ → ℤ → ℤ → ℤ
rows_height more step rise depth = pos (more * step) +ℤ rise +ℤ depth

-- the base line of the first row, where rows of this height stand in the middle between two margins
abbrev pub first_base_line : ℕ → ℕ → ℤ → ℤ → ℤ
first_base_line height margin rows rise = pos margin +ℤ half (pos height -ℤ pos (2 * margin) -ℤ rows) +ℤ rise

-- the base line of a row, by that of the first
abbrev pub base_line : ℤ → ℕ → ℕ → ℤ
base_line first step row = first +ℤ pos (row * step)

-- worked values: rows of 5, 8 and 11 columns in a room of 8, beside a margin of 2
in_a_room : map (λ how. map (left_of how 2 8) (5 ∷ 8 ∷ 11 ∷ [])) (align.Left ∷ align.Centre ∷ align.Right ∷ [])
    ≡ (pos 2 ∷ pos 2 ∷ pos 2 ∷ []) ∷ (pos 3 ∷ pos 2 ∷ pos 0 ∷ []) ∷ (pos 5 ∷ pos 2 ∷ negsuc 0 ∷ []) ∷ []
in_a_room = refl

-- a row that is 7 columns wider, without a margin: half of -7 is -4
half_down : left_of align.Centre 0 1 8 ≡ negsuc 3
half_down = refl

halves : map half (pos 3 ∷ pos 2 ∷ pos 0 ∷ negsuc 0 ∷ negsuc 1 ∷ negsuc 2 ∷ []) ≡ pos 1 ∷ pos 1 ∷ pos 0 ∷ negsuc 0 ∷ negsuc 0 ∷ negsuc 1 ∷ []
halves = refl

-- three rows of 4 above the base line and 1 below, 6 apart, are 17 high; in 20 and in 21 with a margin of 1
three_rows : rows_height 2 6 (pos 4) (pos 1) ≡ pos 17
three_rows = refl

in_the_middle : map (λ height. first_base_line height 1 (pos 17) (pos 4)) (19 ∷ 20 ∷ 21 ∷ 18 ∷ []) ≡ pos 5 ∷ pos 5 ∷ pos 6 ∷ pos 4 ∷ []
in_the_middle = refl

the_last_row : base_line (pos 5) 6 2 ≡ pos 17
the_last_row = refl
