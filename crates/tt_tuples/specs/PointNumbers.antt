-- OpenType, "OpenType Font Variations Common Table Formats", "Packed 'point' numbers": a count, then runs of differences.
-- A list rises, ends at 65535 and is no longer than there are points (profile).
use Rattle.std.specs.Prelude.{◌≡◌, refl, ℕ, zero, suc, ◌+◌, ◌-◌, ◌*◌, ◌%◌, ◌==◌, ◌&&◌, Bool, true, false, nat_lt, nat_le, if◌then◌else◌, Option, Some, None, List, [], ◌∷◌, Result, Ok, Err}
use Rattle.tt_core.specs.Outcomes.{◌>>=◌}
use Rattle.tt_core.specs.Faults.{Fault}
use Rattle.tt_tuples.specs.Bytes.{TupleStore, Read, after, broken, byte_in, glyph_at_100, gvar_fault, word_in}

-- the points that a tuple names
pub data TuplePoints : Type 0 where
  all_points : TuplePoints
  listed : List ℕ → TuplePoints

-- a run of differences: the place of the next one, how many remain, and whether each has two bytes
pub record NumberRun : Type 0 where
  pub at : ℕ
  pub left : ℕ
  pub words : Bool

-- no run, before a place
abbrev pub no_numbers : ℕ → NumberRun
no_numbers at = record { at = at; left = 0; words = false }

-- the run that begins at a place
unfoldable pub number_run_at : TupleStore → ℕ → Result NumberRun Fault
number_run_at store at = byte_in store at >>= λ c. Ok (record { at = at + 1; left = c % 128 + 1; words = nat_le 128 c })

-- the run of the next number: a run that has ended is followed by another
abbrev pub number_run : TupleStore → NumberRun → Result NumberRun Fault
number_run store r = if r.left == 0 then number_run_at store r.at else Ok r

-- the difference that is next in a run
abbrev pub difference_in : TupleStore → NumberRun → Result ℕ Fault
difference_in store r = if r.words then word_in store r.at else byte_in store r.at

-- a run after its next number
abbrev pub number_passed : NumberRun → NumberRun
number_passed r = record { at = r.at + (if r.words then 2 else 1); left = r.left - 1; words = r.words }

-- the first difference is the first number
abbrev pub summed : Option ℕ → ℕ → ℕ
summed None by = by
summed (Some before) by = before + by

abbrev pub is_above : Option ℕ → ℕ → Bool
is_above None number = true
is_above (Some before) number = nat_lt before number

-- a number, if it is above the number before and has 16 bits
abbrev pub number_within : TupleStore → NumberRun → Option ℕ → ℕ → Result ℕ Fault
number_within store r before number =
    if is_above before number && nat_lt number 65536 then Ok number else Err (broken store r.at)

abbrev pub number_in : TupleStore → NumberRun → Option ℕ → Result ℕ Fault
number_in store r before = difference_in store r >>= λ by. number_within store r before (summed before by)

-- a point's number, and the run after it
pub record Number : Type 0 where
  pub number : ℕ
  pub run : NumberRun

unfoldable pub next_number : TupleStore → NumberRun → Option ℕ → Result Number Fault
next_number store r before = do
  run ← number_run store r
  number ← number_in store run before
  Ok (record { number = number; run = number_passed run })

-- the given number of points; the last argument is the number before
unfoldable pub numbers_from : TupleStore → ℕ → NumberRun → Option ℕ → Result (Read (List ℕ)) Fault
numbers_from store zero r before = Ok (record { value = []; next = r.at })
numbers_from store (suc count) r before =
    next_number store r before >>= λ n. after (n.number ∷ []) (numbers_from store count n.run (Some n.number))

-- the given number of points whose first run begins at a place
abbrev pub numbers_at : TupleStore → ℕ → ℕ → Result (Read (List ℕ)) Fault
numbers_at store at count = numbers_from store count (no_numbers at) None

-- how many points are listed: a byte, or 15 bits of two bytes
unfoldable pub count_at : TupleStore → ℕ → Result (Read ℕ) Fault
count_at store at = do
  c ← byte_in store at
  if nat_lt c 128 then Ok (record { value = c; next = at + 1 })
      else (byte_in store (at + 1) >>= λ low. Ok (record { value = 256 * (c - 128) + low; next = at + 2 }))

abbrev pub as_listed : Result (Read (List ℕ)) Fault → Result (Read TuplePoints) Fault
as_listed (Ok read) = Ok (record { value = listed read.value; next = read.next })
as_listed (Err e) = Err e

-- a list of points, refused where its count begins if it is longer than there are points
unfoldable pub listed_at : TupleStore → ℕ → ℕ → Result (Read TuplePoints) Fault
listed_at store at points = do
  count ← count_at store at
  if nat_lt points count.value then Err (broken store at)
      else as_listed (numbers_at store count.next count.value)

-- the point numbers at a place; a first byte of 0 is all points
unfoldable pub points_at : TupleStore → ℕ → ℕ → Result (Read TuplePoints) Fault
points_at store at points =
    byte_in store at >>= λ c. if c == 0 then Ok (record { value = all_points; next = at + 1 }) else listed_at store at points

-- worked values
abbrev points_are : List ℕ → ℕ → List ℕ → ℕ → Type 0
points_are bytes points numbers next = points_at (glyph_at_100 bytes) 0 points ≡ Ok (record { value = listed numbers; next = next })

every_point : points_at (glyph_at_100 (0 ∷ 7 ∷ [])) 0 8 ≡ Ok (record { value = all_points; next = 1 })
unfolding points_at byte_in
every_point = refl

two_points : points_are (2 ∷ 1 ∷ 2 ∷ 1 ∷ 99 ∷ []) 8 (2 ∷ 3 ∷ []) 4
unfolding points_at listed_at count_at numbers_from next_number number_run_at byte_in
two_points = refl

two_words : points_are (2 ∷ 0x81 ∷ 0 ∷ 2 ∷ 0 ∷ 1 ∷ []) 8 (2 ∷ 3 ∷ []) 6
unfolding points_at listed_at count_at numbers_from next_number number_run_at byte_in word_in
two_words = refl

-- the count in two bytes
long_count : points_are (0x80 ∷ 2 ∷ 1 ∷ 2 ∷ 1 ∷ []) 8 (2 ∷ 3 ∷ []) 5
unfolding points_at listed_at count_at numbers_from next_number number_run_at byte_in
long_count = refl

-- a count of 0 in two bytes names no point
no_point : points_are (0x80 ∷ 0 ∷ 1 ∷ []) 8 [] 2
unfolding points_at listed_at count_at numbers_from byte_in
no_point = refl

a_run_for_each : points_are (2 ∷ 0 ∷ 2 ∷ 0 ∷ 1 ∷ []) 8 (2 ∷ 3 ∷ []) 5
unfolding points_at listed_at count_at numbers_from next_number number_run_at byte_in
a_run_for_each = refl

-- a run of six is cut where two points have been read
a_run_past_the_count : points_are (2 ∷ 5 ∷ 2 ∷ 1 ∷ 1 ∷ []) 8 (2 ∷ 3 ∷ []) 4
unfolding points_at listed_at count_at numbers_from next_number number_run_at byte_in
a_run_past_the_count = refl

point_0_first : points_are (2 ∷ 1 ∷ 0 ∷ 1 ∷ []) 8 (0 ∷ 1 ∷ []) 4
unfolding points_at listed_at count_at numbers_from next_number number_run_at byte_in
point_0_first = refl

as_many_as_there_are : points_are (2 ∷ 1 ∷ 0 ∷ 1 ∷ []) 2 (0 ∷ 1 ∷ []) 4
unfolding points_at listed_at count_at numbers_from next_number number_run_at byte_in
as_many_as_there_are = refl

more_than_there_are : points_at (glyph_at_100 (7 ∷ 2 ∷ 1 ∷ 0 ∷ 1 ∷ [])) 1 1 ≡ Err (gvar_fault 101)
unfolding points_at listed_at count_at byte_in
more_than_there_are = refl

a_point_twice : points_at (glyph_at_100 (3 ∷ 2 ∷ 2 ∷ 0 ∷ 1 ∷ [])) 0 8 ≡ Err (gvar_fault 103)
unfolding points_at listed_at count_at numbers_from next_number number_run_at byte_in
a_point_twice = refl

-- the second number is 65536 + 2
past_16_bits : points_at (glyph_at_100 (2 ∷ 0x81 ∷ 0 ∷ 3 ∷ 255 ∷ 255 ∷ [])) 0 8 ≡ Err (gvar_fault 104)
unfolding points_at listed_at count_at numbers_from next_number number_run_at byte_in word_in
past_16_bits = refl

greatest_number : points_are (2 ∷ 0x81 ∷ 0 ∷ 3 ∷ 255 ∷ 252 ∷ []) 8 (3 ∷ 65535 ∷ []) 6
unfolding points_at listed_at count_at numbers_from next_number number_run_at byte_in word_in
greatest_number = refl

numbers_that_end_early : points_at (glyph_at_100 (2 ∷ 1 ∷ 2 ∷ [])) 0 8 ≡ Err (gvar_fault 103)
unfolding points_at listed_at count_at numbers_from next_number number_run_at byte_in
numbers_that_end_early = refl
