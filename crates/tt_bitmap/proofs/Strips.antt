-- The columns of rows of words, one word more at a time.
use Rattle.std.proofs.Common.{◌≡◌, ◌∙◌, sym, ap, refl, ℕ, ◌+◌, ◌-◌, ◌*◌, ◌/◌, ◌%◌, ◌<◌, ◌≤◌, Bool, true, false, ◌&&◌, ◌||◌, nat_lt, min, List, drop, slice_index, ℤ, pos, ◌+ℤ◌, ◌-ℤ◌, ◌≤ℤ◌, ◌<ℤ◌, int_le, unsigned_abs, arith, inl, inr}
use Rattle.std.proofs.lemmas.Bool.{cases_lt}
use Rattle.std.proofs.lemmas.Bool.Decides.{nat_tests}
use Rattle.std.proofs.lemmas.Int.{by_lt_z, ints}
use Rattle.std.proofs.lemmas.List.{get_or-drop}
use Rattle.std.proofs.lemmas.Nat.{mul-le}
use Rattle.tt_bitmap.specs.Bitmaps.{number_at, pixel, shown_in, strips}
use Rattle.tt_bitmap.specs.Words.{in_strip, in_word, is_whole}
use Rattle.tt_bitmap.proofs.Bools.{both, never, or_false}
use Rattle.tt_bitmap.proofs.Clips.{whole_parts}

-- a word of a row is one of the words
pub word_within : (strips strip r rows len : ℕ) → strip < strips → r < rows → strips * rows ≤ len → strips * r + strip < len
word_within strips strip r rows len below within fits =
    let ends : strips * (r + 1) ≤ strips * rows = mul-le strips (r + 1) strips rows (omega arith) (omega (arith, within)) in
    omega (arith, ends, fits, below)

-- no column yet
pub none_yet : (seen : Bool) (words : List ℕ) (w r c n : ℕ) (at : ℤ) → n ≡ 0 → (seen && shown_in words w at n r c) ≡ false
none_yet seen words w r c n at none =
    let off : nat_lt (unsigned_abs (pos c -ℤ at)) 0 ≡ false = grind (arith, nat_tests) in
    rw (none, off, never (int_le at (pos c))) (never seen)

-- the columns so far, and those of word s
one_strip : (words : List ℕ) (w n s r c : ℕ) (at : ℤ)
    → (shown_in words w at (min n (56 * s)) r c || in_strip (at +ℤ pos (56 * s)) (min 56 (n - 56 * s)) (slice_index words (strips w * r + s)) c)
    ≡ shown_in words w at (min n (56 * (s + 1))) r c
one_strip words w n s r c at =
    by_lt_z (pos c) at
    (λ left.
    let off : int_le at (pos c) ≡ false = grind (arith, ints) in
    let out : int_le (at +ℤ pos (56 * s)) (pos c) ≡ false = let less : pos c <ℤ (at +ℤ pos (56 * s)) = omega (arith, ints) in grind (arith, ints) in
    rw (off, out) refl)
    (λ right.
    let m : ℕ = unsigned_abs (pos c -ℤ at) in
    let on : int_le at (pos c) ≡ true = grind (arith, ints) in
    let here : at +ℤ pos m ≡ pos c = omega (arith, ints) in
    elim (cases_lt m (56 * s)) [
      | inl before ↦
          let out : int_le (at +ℤ pos (56 * s)) (pos c) ≡ false =
          let less : pos c <ℤ (at +ℤ pos (56 * s)) = omega (arith, ints, here, before) in grind (arith, ints) in
          let same : nat_lt m (min n (56 * s)) ≡ nat_lt m (min n (56 * (s + 1))) = grind (arith, nat_tests) in
          rw (out, same) (sym (or_false _))
      | inr from ↦
          let begun : nat_lt m (min n (56 * s)) ≡ false = grind (arith, nat_tests) in
          let inside : int_le (at +ℤ pos (56 * s)) (pos c) ≡ true =
          let more : (at +ℤ pos (56 * s)) ≤ℤ pos c = omega (arith, ints, here, from) in grind (arith, ints) in
          let place : unsigned_abs (pos c -ℤ (at +ℤ pos (56 * s))) ≡ m - 56 * s = omega (arith, ints, here, from) in
          elim (cases_lt m (56 * (s + 1))) [
            | inl within ↦
                let same : nat_lt (m - 56 * s) (min 56 (n - 56 * s)) ≡ nat_lt m (min n (56 * (s + 1))) = grind (arith, nat_tests) in
                let word : (56 * (strips w * r) + m) / 56 ≡ strips w * r + s = omega (arith, from, within) in
                let bit : (56 * (strips w * r) + m) % 56 ≡ m - 56 * s = omega (arith, from, within) in
                rw (on, begun, inside, place, same, word, bit) refl
            | inr past ↦
                let out : nat_lt (m - 56 * s) (min 56 (n - 56 * s)) ≡ false = grind (arith, nat_tests) in
                let gone : nat_lt m (min n (56 * (s + 1))) ≡ false = grind (arith, nat_tests) in
                rw (on, begun, inside, place, out, gone) refl
          ]
    ])

pub strip_more : (seen : Bool) (words : List ℕ) (w n s r c : ℕ) (at : ℤ) (stamp : Bool)
    → stamp ≡ (seen && in_strip (at +ℤ pos (56 * s)) (min 56 (n - 56 * s)) (slice_index words (strips w * r + s)) c)
    → ((seen && shown_in words w at (min n (56 * s)) r c) || stamp) ≡ (seen && shown_in words w at (min n (56 * (s + 1))) r c)
strip_more seen words w n s r c at stamp is =
    rw is (both seen (shown_in words w at (min n (56 * s)) r c)
    (in_strip (at +ℤ pos (56 * s)) (min 56 (n - 56 * s)) (slice_index words (strips w * r + s)) c))
    ∙ ap (λ (b : Bool). seen && b) (one_strip words w n s r c at)

-- a row of one word
pub narrow_strip : (words : List ℕ) (n r c : ℕ) (at : ℤ) → strips n ≡ 1
    → in_strip at n (slice_index words (1 * r + 0)) c ≡ shown_in words n at n r c
narrow_strip words n r c at one =
    let m : ℕ = unsigned_abs (pos c -ℤ at) in
    elim (cases_lt m n) [
      | inl has ↦
          let few : n ≤ 56 = omega (arith, one) in
          let row : strips n * r ≡ r = rw one (omega arith) in
          let word : (56 * (strips n * r) + m) / 56 ≡ 1 * r + 0 = omega (arith, row, has, few) in
          let bit : (56 * (strips n * r) + m) % 56 ≡ m = omega (arith, row, has, few) in
          rw (word, bit) refl
      | inr past ↦
          let out : nat_lt m n ≡ false = grind (arith, nat_tests) in
          rw (out, never (int_le at (pos c))) refl
    ]

-- rows that a band has whole
pub one_word_rows : (at : ℤ) (columns width bytes rows : ℕ) → is_whole at columns width bytes ≡ true → strips columns * rows ≡ rows
one_word_rows at columns width bytes rows whole =
    let is = whole_parts at columns width bytes whole in
    let some = is.some in
    let few = is.few in
    let one : strips columns ≡ 1 = omega (arith, some, few) in
    rw one (omega arith)

pub all_strips : (columns s : ℕ) → strips columns ≤ s → min columns (56 * s) ≡ columns
all_strips columns s many = omega (arith, many)

-- the rows from row `own` on
pub rows_dropped : (words : List ℕ) (w n own r c k : ℕ) (at : ℤ) → k ≡ strips w * own
    → shown_in (drop k words) w at n r c ≡ shown_in words w at n (own + r) c
rows_dropped words w n own r c k at is =
    let m : ℕ = unsigned_abs (pos c -ℤ at) in
    let sum : strips w * (own + r) ≡ strips w * own + strips w * r = omega arith in
    let word : k + (56 * (strips w * r) + m) / 56 ≡ (56 * (strips w * (own + r)) + m) / 56 = omega (arith, sum, is) in
    let bit : (56 * (strips w * r) + m) % 56 ≡ (56 * (strips w * (own + r)) + m) % 56 = omega arith in
    let same : slice_index (drop k words) ((56 * (strips w * r) + m) / 56) ≡ slice_index words ((56 * (strips w * (own + r)) + m) / 56) =
    get_or-drop k words ((56 * (strips w * r) + m) / 56) 0 ∙ ap (λ x. slice_index words x) word in
    let black : pixel (drop k words) (number_at w r m) ≡ pixel words (number_at w (own + r) m) =
    ap (λ x. in_word x ((56 * (strips w * r) + m) % 56)) same ∙ ap (λ x. in_word (slice_index words ((56 * (strips w * (own + r)) + m) / 56)) x) bit in
    ap (λ (x : Bool). (int_le at (pos c) && nat_lt m n) && x) black
