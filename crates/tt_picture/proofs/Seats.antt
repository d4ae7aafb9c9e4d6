-- The table that finds a line's glyph by its number.
use Rattle.std.proofs.Common.{◌≡◌, ◌≢◌, refl, ◌∙◌, ℕ, zero, suc, ◌+◌, ◌-◌, ◌<◌, ◌≤◌, Bool, true, false, ◌||◌, ◌==◌, List, [], ◌∷◌, ◌++◌, length, get_or, set, slice_index, All, inl, inr, arith, get_or-set_same, get_or-set_other, length-append}
use Rattle.std.proofs.lemmas.Bool.{cases_eq, cases_lt}
use Rattle.std.proofs.lemmas.Bool.Decides.{nat_tests}
use Rattle.std.proofs.lemmas.List.{get_or_append_left, get_or_at, get_or_default}
use Rattle.tt_picture.specs.Distinct.{is_among}
use Rattle.tt_picture.specs.Glyphs.{ArePlaces}

one_longer : (numbers : List ℕ) (n : ℕ) → length (numbers ++ n ∷ []) ≡ length numbers + 1
one_longer numbers n = rw length-append refl

within_more : (table numbers : List ℕ) (n m : ℕ) → n < length table → ArePlaces table numbers
    → slice_index (set table n (length numbers + 1)) m ≤ length (numbers ++ n ∷ [])
within_more table numbers n m known places = elim (cases_eq m n) [
  | inl same ↦
      let value : slice_index (set table n (length numbers + 1)) n ≡ length numbers + 1 = get_or-set_same table n (length numbers + 1) 0 known in
      rw (same, value, one_longer numbers n) (omega arith)
  | inr other ↦
      let kept : slice_index (set table n (length numbers + 1)) m ≡ slice_index table m = get_or-set_other table n m (length numbers + 1) 0 other in
      rw (kept, one_longer numbers n) (omega (arith, places.within m))
]

found_more : (table numbers : List ℕ) (n m : ℕ) → n < length table → ArePlaces table numbers
    → 0 < slice_index (set table n (length numbers + 1)) m
    → slice_index (numbers ++ n ∷ []) (slice_index (set table n (length numbers + 1)) m - 1) ≡ m
found_more table numbers n m known places some = elim (cases_eq m n) [
  | inl same ↦
      let value : slice_index (set table n (length numbers + 1)) n ≡ length numbers + 1 = get_or-set_same table n (length numbers + 1) 0 known in
      rw (same, value) (get_or_at numbers n [] 0 (length numbers + 1 - 1) (omega arith))
  | inr other ↦
      let kept : slice_index (set table n (length numbers + 1)) m ≡ slice_index table m = get_or-set_other table n m (length numbers + 1) 0 other in
      let here : 0 < slice_index table m = rw kept at some in
      rw kept (get_or_append_left numbers (n ∷ []) 0 (slice_index table m - 1) (omega (arith, places.within m)) ∙ places.found m here)
]

there_more : (table numbers : List ℕ) (n i : ℕ) → n < length table → All (λ m. m ≢ n) numbers → ArePlaces table numbers
    → i < length (numbers ++ n ∷ []) → slice_index (set table n (length numbers + 1)) (slice_index (numbers ++ n ∷ []) i) ≡ i + 1
there_more table numbers n i known absent places below = elim (cases_lt i (length numbers)) [
  | inl before ↦
      let number : slice_index (numbers ++ n ∷ []) i ≡ slice_index numbers i = get_or_append_left numbers (n ∷ []) 0 i before in
      let kept : slice_index (set table n (length numbers + 1)) (slice_index numbers i) ≡ slice_index table (slice_index numbers i) =
      get_or-set_other table n (slice_index numbers i) (length numbers + 1) 0 (absent i 0 before) in
      rw (number, kept) (places.there i before)
  | inr last ↦
      let long : i < length numbers + 1 = rw (one_longer numbers n) at below in
      let number : slice_index (numbers ++ n ∷ []) i ≡ n = get_or_at numbers n [] 0 i (omega arith) in
      let value : slice_index (set table n (length numbers + 1)) n ≡ length numbers + 1 = get_or-set_same table n (length numbers + 1) 0 known in
      rw (number, value) (omega arith)
]

-- one glyph more
pub places_more : (table numbers : List ℕ) (n : ℕ) → n < length table → All (λ m. m ≢ n) numbers → ArePlaces table numbers
    → ArePlaces (set table n (length numbers + 1)) (numbers ++ n ∷ [])
places_more table numbers n known absent places = record {
  within = λ m. within_more table numbers n m known places;
  found = λ m some. found_more table numbers n m known places some;
  there = λ i below. there_more table numbers n i known absent places below;
}

-- the place of a number among some
abbrev IsAt : List ℕ → ℕ → Type 0
IsAt ns n = (i : ℕ) × (i < length ns) × (slice_index ns i ≡ n)

there_by : (here : Bool) (m : ℕ) (ns : List ℕ) (n : ℕ) → (m == n) ≡ here → (here || is_among n ns) ≡ true
    → (is_among n ns ≡ true → IsAt ns n) → IsAt (m ∷ ns) n
there_by true m ns n same is rest = let first : m ≡ n = grind (arith, nat_tests) in (0, omega arith, first)
there_by false m ns n other is rest =
    let at = rest is in
    let below = at.1 in
    (suc at.0, omega arith, at.2)

there_at : (ns : List ℕ) (n : ℕ) → is_among n ns ≡ true → IsAt ns n
there_at [] n is = absurd cc
there_at (m ∷ ns) n is = there_by (m == n) m ns n refl is (there_at ns n)

-- the table has a place for a number that is there
pub seat_of : (table numbers : List ℕ) (n : ℕ) → ArePlaces table numbers → is_among n numbers ≡ true → 0 < slice_index table n
seat_of table numbers n places among =
    let at = there_at numbers n among in
    let seat : slice_index table n ≡ at.0 + 1 = rw at.2 at (places.there at.0 at.1) in
    omega (arith, seat)

-- so the number is one of the table's
past_end : (table : List ℕ) (n : ℕ) → length table ≤ n → slice_index table n ≡ 0
past_end [] n over = refl
past_end (seat ∷ table) zero over = absurd (omega (arith, over))
past_end (seat ∷ table) (suc n) over = past_end table n (omega (arith, over))

pub known_by : (table numbers : List ℕ) (n : ℕ) → ArePlaces table numbers → is_among n numbers ≡ true → n < length table
known_by table numbers n places among = elim (cases_lt n (length table)) [
  | inl below ↦ below
  | inr over ↦ let some = seat_of table numbers n places among in absurd (omega (arith, some, past_end table n over))
]

pub seated : (table numbers : List ℕ) (n seat : ℕ) → n < length table → seat ≡ get_or table n seat
    → ArePlaces table numbers → is_among n numbers ≡ true
    → (0 < seat) × (seat - 1 < length numbers) × (slice_index numbers (seat - 1) ≡ n)
seated table numbers n seat known read places among =
    let is : seat ≡ slice_index table n = read ∙ get_or_default table n seat 0 known in
    let some = seat_of table numbers n places among in
    let here : 0 < seat = rw is some in
    let most = places.within n in
    (here, omega (arith, is, here, most), rw is (places.found n some))
