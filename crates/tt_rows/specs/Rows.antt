-- A line broken into rows of at most a room's width (profile). A row ends at the last place where it may end such that it
-- fits. Where there is no such place, a word is broken.
use Rattle.std.specs.Prelude.{◌≡◌, refl, ℕ, zero, suc, ◌+◌, ◌==◌, Bool, true, false, ◌||◌, nat_le, nat_lt, if◌then◌else◌, List, [], ◌∷◌, drop, length, map}
use Rattle.tt_rows.specs.declared.row.LineRow.{LineRow}
use Rattle.tt_rows.specs.declared.unit.RowUnit.{RowUnit}
use Rattle.tt_rows.specs.Breaks.{breaks_before, may_break}
use Rattle.tt_rows.specs.Classes.{begins_no_row, ends_no_row, is_blank, is_ideograph}
use Rattle.tt_rows.specs.Greatest.{greatest}
use Rattle.tt_rows.specs.Widths.{drawn, part}

-- a unit whose pen is at a place of a row fits into a room. A blank fits, since blanks at the end of a row are not drawn
abbrev pub fits_at : ℕ → ℕ → RowUnit → Bool
fits_at room pen u = is_blank u.character || nat_le (pen + u.step) room

-- the number of units that fit, one after the other, from a pen on
abbrev pub fitting_from : ℕ → ℕ → List RowUnit → ℕ
fitting_from room pen [] = 0
fitting_from room pen (u ∷ us) = if fits_at room pen u then suc (fitting_from room (pen + u.kerned) us) else 0

-- the number of the first of some units that fit into a row
abbrev pub fitting : ℕ → List RowUnit → ℕ
fitting room units = fitting_from room 0 units

-- the greatest number of units from unit `from` on, at most `most`, after which a row may end; 0 if there is none
unfoldable pub whole_words : List RowUnit → ℕ → ℕ → ℕ
whole_words line from most = greatest (λ count. breaks_before line (from + count)) most

-- the row of the units from `from` up to before `next`
abbrev pub row_between : List RowUnit → ℕ → ℕ → Bool → LineRow
row_between line from next broken = record {
  from = from;
  until = from + length (drawn (part line from next));
  next = next;
  broken = broken;
}

-- one in place of none
abbrev pub one_at_least : ℕ → ℕ
one_at_least n = if n == 0 then 1 else n

-- the row from unit `from` on, where so many units fit, and so many before the last break among them
abbrev pub row_by : List RowUnit → ℕ → ℕ → ℕ → LineRow
row_by line from count whole =
    if from + count == length line then row_between line from (from + count) false
    else if nat_lt 0 whole then row_between line from (from + whole) false
    else row_between line from (from + one_at_least count) true

-- the row from a unit on
unfoldable pub row_from : List RowUnit → ℕ → ℕ → LineRow
row_from line room from =
    row_by line from (fitting room (drop from line)) (whole_words line from (fitting room (drop from line)))

-- at most so many rows from a unit on
unfoldable pub rows_from : List RowUnit → ℕ → ℕ → ℕ → List LineRow
rows_from line room from zero = []
rows_from line room from (suc most) =
    if nat_lt from (length line) then row_from line room from ∷ rows_from line room (row_from line room from).next most
    else []

abbrev pub empty_row : LineRow
empty_row = record { from = 0; until = 0; next = 0; broken = false }

-- the rows of a line; each has a unit, so a line has at most as many rows as units. An empty line is one row
unfoldable pub rows : List RowUnit → ℕ → List LineRow
rows [] room = empty_row ∷ []
rows (u ∷ us) room = rows_from (u ∷ us) room 0 (length (u ∷ us))

-- worked values: characters are 4 wide, but blanks 2 and zero width spaces 0, and pairs are not kerned
step_of : ℕ → ℕ
step_of c = if c == 0x20 then 2 else if c == 0x200B then 0 else 4

unkerned : ℕ → RowUnit
unkerned c = record { character = c; glyph = 1; step = step_of c; kerned = step_of c }

of_text : ℕ → List ℕ → List LineRow
of_text room cs = rows (map unkerned cs) room

unbroken : ℕ → ℕ → ℕ → LineRow
unbroken from until next = record { from = from; until = until; next = next; broken = false }

cut : ℕ → ℕ → LineRow
cut from next = record { from = from; until = next; next = next; broken = true }

-- "AA AA A" in 18, "AA A" in 14 and in 13
three_words : of_text 18 (0x41 ∷ 0x41 ∷ 0x20 ∷ 0x41 ∷ 0x41 ∷ 0x20 ∷ 0x41 ∷ []) ≡ unbroken 0 5 6 ∷ unbroken 6 7 7 ∷ []
unfolding of_text unbroken unkerned step_of rows rows_from row_from whole_words may_break is_ideograph
three_words = refl

exactly_the_width : of_text 14 (0x41 ∷ 0x41 ∷ 0x20 ∷ 0x41 ∷ []) ≡ unbroken 0 4 4 ∷ []
unfolding of_text unbroken unkerned step_of rows rows_from row_from whole_words may_break is_ideograph
exactly_the_width = refl

one_pixel_too_narrow : of_text 13 (0x41 ∷ 0x41 ∷ 0x20 ∷ 0x41 ∷ []) ≡ unbroken 0 2 3 ∷ unbroken 3 4 4 ∷ []
unfolding of_text unbroken unkerned step_of rows rows_from row_from whole_words may_break is_ideograph
one_pixel_too_narrow = refl

-- "AA   AA" in 13, and "  A A" in 8
blanks_at_a_break : of_text 13 (0x41 ∷ 0x41 ∷ 0x20 ∷ 0x20 ∷ 0x20 ∷ 0x41 ∷ 0x41 ∷ []) ≡ unbroken 0 2 5 ∷ unbroken 5 7 7 ∷ []
unfolding of_text unbroken unkerned step_of rows rows_from row_from whole_words may_break is_ideograph
blanks_at_a_break = refl

leading_blanks : of_text 8 (0x20 ∷ 0x20 ∷ 0x41 ∷ 0x20 ∷ 0x41 ∷ []) ≡ unbroken 0 3 4 ∷ unbroken 4 5 5 ∷ []
unfolding of_text unbroken unkerned step_of rows rows_from row_from whole_words may_break is_ideograph
leading_blanks = refl

blanks_alone : of_text 4 (0x20 ∷ 0x20 ∷ 0x20 ∷ []) ≡ unbroken 0 0 3 ∷ []
unfolding of_text unbroken unkerned step_of rows rows_from row_from whole_words may_break is_ideograph
blanks_alone = refl

an_empty_line : of_text 10 [] ≡ unbroken 0 0 0 ∷ []
unfolding of_text unbroken rows rows_from
an_empty_line = refl

-- "AAAAA A" in 10, and "AA" in 3, where no letter fits
a_word_too_long : of_text 10 (0x41 ∷ 0x41 ∷ 0x41 ∷ 0x41 ∷ 0x41 ∷ 0x20 ∷ 0x41 ∷ []) ≡ cut 0 2 ∷ cut 2 4 ∷ unbroken 4 7 7 ∷ []
unfolding of_text unbroken cut unkerned step_of rows rows_from row_from whole_words may_break is_ideograph
a_word_too_long = refl

no_letter_fits : of_text 3 (0x41 ∷ 0x41 ∷ []) ≡ cut 0 1 ∷ cut 1 2 ∷ []
unfolding of_text cut unkerned step_of rows rows_from row_from whole_words may_break is_ideograph
no_letter_fits = refl

-- "AA-AA AA" in 14, "A -AA" in 11, "AA-1A" in 12
after_a_hyphen : of_text 14 (0x41 ∷ 0x41 ∷ 0x2D ∷ 0x41 ∷ 0x41 ∷ 0x20 ∷ 0x41 ∷ 0x41 ∷ []) ≡ unbroken 0 3 3 ∷ unbroken 3 5 6 ∷ unbroken 6 8 8 ∷ []
unfolding of_text unbroken unkerned step_of rows rows_from row_from whole_words may_break is_ideograph
after_a_hyphen = refl

not_after_a_leading_hyphen : of_text 11 (0x41 ∷ 0x20 ∷ 0x2D ∷ 0x41 ∷ 0x41 ∷ []) ≡ unbroken 0 1 2 ∷ cut 2 4 ∷ unbroken 4 5 5 ∷ []
unfolding of_text unbroken cut unkerned step_of rows rows_from row_from whole_words may_break is_ideograph
not_after_a_leading_hyphen = refl

not_before_a_digit : of_text 12 (0x41 ∷ 0x41 ∷ 0x2D ∷ 0x31 ∷ 0x41 ∷ []) ≡ cut 0 3 ∷ unbroken 3 5 5 ∷ []
unfolding of_text unbroken cut unkerned step_of rows rows_from row_from whole_words may_break is_ideograph
not_before_a_digit = refl

after_a_hyphen_of_its_own : of_text 11 (0x41 ∷ 0x2010 ∷ 0x41 ∷ 0x41 ∷ []) ≡ unbroken 0 2 2 ∷ unbroken 2 4 4 ∷ []
unfolding of_text unbroken unkerned step_of rows rows_from row_from whole_words may_break is_ideograph
after_a_hyphen_of_its_own = refl

after_a_zero_width_space : of_text 12 (0x41 ∷ 0x41 ∷ 0x200B ∷ 0x41 ∷ 0x41 ∷ []) ≡ unbroken 0 3 3 ∷ unbroken 3 5 5 ∷ []
unfolding of_text unbroken unkerned step_of rows rows_from row_from whole_words may_break is_ideograph
after_a_zero_width_space = refl

between_ideographs : of_text 10 (0x4E2D ∷ 0x6587 ∷ 0x4E2D ∷ 0x6587 ∷ 0x4E2D ∷ []) ≡ unbroken 0 2 2 ∷ unbroken 2 4 4 ∷ unbroken 4 5 5 ∷ []
unfolding of_text unbroken unkerned step_of rows rows_from row_from whole_words may_break is_ideograph begins_no_row ends_no_row
between_ideographs = refl

not_before_a_closing_mark : of_text 12 (0x4E2D ∷ 0x6587 ∷ 0x4E2D ∷ 0x3001 ∷ 0x6587 ∷ []) ≡ unbroken 0 2 2 ∷ unbroken 2 5 5 ∷ []
unfolding of_text unbroken unkerned step_of rows rows_from row_from whole_words may_break is_ideograph begins_no_row ends_no_row
not_before_a_closing_mark = refl

not_after_an_opening_mark : of_text 12 (0x4E2D ∷ 0x6587 ∷ 0x300C ∷ 0x4E2D ∷ 0x6587 ∷ []) ≡ unbroken 0 2 2 ∷ unbroken 2 5 5 ∷ []
unfolding of_text unbroken unkerned step_of rows rows_from row_from whole_words may_break is_ideograph begins_no_row ends_no_row
not_after_an_opening_mark = refl

beside_letters : of_text 12 (0x41 ∷ 0x41 ∷ 0x4E2D ∷ 0x6587 ∷ []) ≡ unbroken 0 3 3 ∷ unbroken 3 4 4 ∷ []
unfolding of_text unbroken unkerned step_of rows rows_from row_from whole_words may_break is_ideograph begins_no_row ends_no_row
beside_letters = refl

not_before_a_point : of_text 8 (0x41 ∷ 0x4E2D ∷ 0x2E ∷ 0x41 ∷ []) ≡ unbroken 0 1 1 ∷ cut 1 3 ∷ unbroken 3 4 4 ∷ []
unfolding of_text unbroken cut unkerned step_of rows rows_from row_from whole_words may_break is_ideograph begins_no_row ends_no_row
not_before_a_point = refl
