-- The rows of a text: each of its lines is broken into rows of at most a room's width (profile).
use Rattle.std.specs.Prelude.{◌≡◌, refl, ℕ, ◌==◌, Bool, true, false, if◌then◌else◌, List, [], ◌∷◌, map}
use Rattle.std.specs.List.{flat_map, list_any}
use Rattle.tt_line.specs.Labels.{widest}
use Rattle.tt_rows.specs.declared.row.LineRow.{LineRow}
use Rattle.tt_rows.specs.declared.unit.RowUnit.{RowUnit}
use Rattle.tt_rows.specs.Breaks.{may_break}
use Rattle.tt_rows.specs.Classes.{is_ideograph}
use Rattle.tt_rows.specs.Rows.{row_from, rows, rows_from, whole_words}
use Rattle.tt_rows.specs.Widths.{part, stepped_row}

-- the glyphs of a row that are drawn, with their steps
abbrev pub row_glyphs : List RowUnit → LineRow → List (ℕ × ℕ)
row_glyphs units r = stepped_row (part units r.from r.until)

-- the rows of a line
abbrev pub line_rows : ℕ → List RowUnit → List (List (ℕ × ℕ))
line_rows room units = map (row_glyphs units) (rows units room)

-- the rows of some lines, from above
abbrev pub text_rows : ℕ → List (List RowUnit) → List (List (ℕ × ℕ))
text_rows room lines = flat_map (line_rows room) lines

-- a row of a line ends within a word
abbrev pub breaks_line : ℕ → List RowUnit → Bool
breaks_line room units = list_any (λ r. r.broken) (rows units room)

-- a row of some lines does
abbrev pub breaks_word : ℕ → List (List RowUnit) → Bool
breaks_word room lines = list_any (breaks_line room) lines

-- worked values: characters are 4 wide, but blanks 2; a letter is kerned to 3 before a letter
unit : ℕ → ℕ → RowUnit
unit c kerned = record { character = c; glyph = if c == 0x20 then 2 else 1; step = if c == 0x20 then 2 else 4; kerned = kerned }

-- "AA A" and a line without a unit
lines : List (List RowUnit)
lines = (unit 0x41 3 ∷ unit 0x41 4 ∷ unit 0x20 2 ∷ unit 0x41 4 ∷ []) ∷ [] ∷ []

-- 13 columns are enough for one row, 12 are not: then the blank is not drawn
in_one_row : text_rows 13 lines ≡ ((1, 3) ∷ (1, 4) ∷ (2, 2) ∷ (1, 4) ∷ []) ∷ [] ∷ []
unfolding lines unit rows rows_from row_from whole_words may_break is_ideograph
in_one_row = refl

in_two_rows : text_rows 12 lines ≡ ((1, 3) ∷ (1, 4) ∷ []) ∷ ((1, 4) ∷ []) ∷ [] ∷ []
unfolding lines unit rows rows_from row_from whole_words may_break is_ideograph
in_two_rows = refl

no_word_is_broken : breaks_word 12 lines ≡ false
unfolding lines unit rows rows_from row_from whole_words may_break is_ideograph
no_word_is_broken = refl

-- "AA" is 7 wide, so a row of 6 columns has one letter, which is not kerned
a_word_is_broken : breaks_word 6 lines ≡ true
unfolding lines unit rows rows_from row_from whole_words may_break is_ideograph
a_word_is_broken = refl

its_rows : text_rows 6 lines ≡ ((1, 4) ∷ []) ∷ ((1, 4) ∷ []) ∷ ((1, 4) ∷ []) ∷ [] ∷ []
unfolding lines unit rows rows_from row_from whole_words may_break is_ideograph
its_rows = refl

their_width : widest (text_rows 12 lines) ≡ 7
unfolding lines unit rows rows_from row_from whole_words may_break is_ideograph
their_width = refl
