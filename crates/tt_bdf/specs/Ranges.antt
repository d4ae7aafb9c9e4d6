-- No part of a standard: the characters that `--range` asks for (profile). Ranges are separated by commas. A range is a
-- code point or two with a hyphen between: the first, and one that is not below the first. A code point is 1 to 6
-- hexadecimal digits of either case, with or without `U+` before them.
use Rattle.std.specs.Prelude.{◌≡◌, refl, ℕ, ◌+◌, ◌-◌, ◌*◌, ◌≤◌, ◌&&◌, ◌||◌, ◌==◌, nat_lt, nat_le, if◌then◌else◌, List, [], ◌∷◌, length, drop, slice_index, codes, Option, Some, None}
use Rattle.tt_bdf.specs.declared.range.CodeRange.{CodeRange}
use Rattle.tt_core.specs.Cutting.{after, all_read, before, pieces}

-- the greatest code point
abbrev pub last_code : ℕ
last_code = 0x10FFFF

-- the value of a hexadecimal digit
abbrev pub hex_value : ℕ → Option ℕ
hex_value c =
    if nat_le 48 c && nat_le c 57 then Some (c - 48)
    else (if nat_le 65 c && nat_le c 70 then Some (c - 55)
    else (if nat_le 97 c && nat_le c 102 then Some (c - 87) else None))

-- a code point with one more digit, if that is a code point
abbrev pub with_digit : ℕ → Option ℕ → Option ℕ
with_digit n None = None
with_digit n (Some d) = if nat_le (16 * n + d) last_code then Some (16 * n + d) else None

-- a code point with more digits
abbrev pub with_digits : Option ℕ → List ℕ → Option ℕ
with_digits None xs = None
with_digits (Some n) [] = Some n
with_digits (Some n) (x ∷ xs) = with_digits (with_digit n (hex_value x)) xs

-- the digits behind `U+`
abbrev pub unmarked : List ℕ → List ℕ
unmarked t = if nat_le 2 (length t) && ((slice_index t 0 == 85) && (slice_index t 1 == 43)) then drop 2 t else t

abbrev pub by_digits : List ℕ → Option ℕ
by_digits ds = if nat_lt (length ds) 1 || nat_lt 6 (length ds) then None else with_digits (Some 0) ds

abbrev pub code_of : List ℕ → Option ℕ
code_of t = by_digits (unmarked t)

-- the range from a code point to one that is not below it
abbrev pub between : Option ℕ → Option ℕ → Option CodeRange
between None b = None
between (Some a) None = None
between (Some a) (Some b) = if nat_le a b then Some (record { first = a; last = b }) else None

abbrev pub range_by : List ℕ → Option (List ℕ) → Option CodeRange
range_by t None = between (code_of t) (code_of t)
range_by t (Some u) = between (code_of t) (code_of u)

-- the range that a piece asks for
abbrev pub range_of : List ℕ → Option CodeRange
range_of t = range_by (before 45 t) (after 45 t)

-- the ranges that a text asks for, if it is of the right form
unfoldable pub ranges_of : List ℕ → Option (List CodeRange)
ranges_of t = all_read range_of (pieces 44 t)

pub record IsCodeRange (r : CodeRange) : Type 0 where
  pub order : r.first ≤ r.last
  pub codes : r.last ≤ last_code

-- worked values
abbrev codes_to : ℕ → ℕ → CodeRange
codes_to a b = record { first = a; last = b }

default_ranges : ranges_of (codes "20-7E,A0-FF") ≡ Some (codes_to 0x20 0x7E ∷ codes_to 0xA0 0xFF ∷ [])
unfolding ranges_of
default_ranges = refl

marks_and_cases : ranges_of (codes "U+41-U+42,42-44,5a")
    ≡ Some (codes_to 0x41 0x42 ∷ codes_to 0x42 0x44 ∷ codes_to 0x5A 0x5A ∷ [])
unfolding ranges_of
marks_and_cases = refl

all_codes : ranges_of (codes "0-10ffff,000041") ≡ Some (codes_to 0 last_code ∷ codes_to 0x41 0x41 ∷ [])
unfolding ranges_of
all_codes = refl

-- none of these is of the right form
abbrev no_ranges : List ℕ → Type 0
no_ranges t = ranges_of t ≡ None

nothing : no_ranges []
unfolding ranges_of
nothing = refl

no_digit : no_ranges (codes "x")
unfolding ranges_of
no_digit = refl

no_last : no_ranges (codes "41-")
unfolding ranges_of
no_last = refl

falling : no_ranges (codes "42-41")
unfolding ranges_of
falling = refl

past_the_last : no_ranges (codes "110000")
unfolding ranges_of
past_the_last = refl

an_empty_piece : no_ranges (codes "41,,42")
unfolding ranges_of
an_empty_piece = refl

three_ends : no_ranges (codes "41-42-43")
unfolding ranges_of
three_ends = refl

a_blank : no_ranges (codes " 41")
unfolding ranges_of
a_blank = refl

another_mark : no_ranges (codes "0x41")
unfolding ranges_of
another_mark = refl

seven_digits : no_ranges (codes "1234567")
unfolding ranges_of
seven_digits = refl

eight_digits : no_ranges (codes "00000041")
unfolding ranges_of
eight_digits = refl

a_small_mark : no_ranges (codes "u+41")
unfolding ranges_of
a_small_mark = refl

two_marks : no_ranges (codes "U+U+41")
unfolding ranges_of
two_marks = refl
