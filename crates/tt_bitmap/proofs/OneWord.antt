-- Columns of a row made black as one word.
use Rattle.std.proofs.Common.{◌≡◌, ◌∙◌, sym, ap, refl, ℕ, ◌+◌, ◌-◌, ◌*◌, ◌/◌, ◌%◌, ◌^◌, ◌<◌, ◌≤◌, Bool, true, false, ◌&&◌, ◌||◌, ◌==◌, nat_le, List, ℤ, pos, ◌+ℤ◌, ◌-ℤ◌, ◌≤ℤ◌, ◌<ℤ◌, int_le, int_lt, unsigned_abs, arith, inl, inr}
use Rattle.std.specs.Int.{bit_at}
use Rattle.std.specs.Ordering.{int_eq}
use Rattle.std.proofs.lemmas.Bool.{cases_lt, false≢true}
use Rattle.std.proofs.lemmas.Bool.Decides.{nat_tests}
use Rattle.std.proofs.lemmas.Int.{ints}
use Rattle.std.proofs.lemmas.Nat.{mul-le}
use Rattle.std.proofs.lemmas.Nat.Bits.{bit_at_above}
use Rattle.tt_bitmap.specs.Bitmaps.{BoxBitmap, has, in_line, is_black, is_line, number, number_at, pixel, strips}
use Rattle.tt_bitmap.specs.Words.{in_word}
use Rattle.tt_bitmap.proofs.Bools.{and_assoc, parts}
use Rattle.tt_bitmap.proofs.Places.{inside}
use Rattle.tt_bitmap.proofs.Points.{off_false, same_line, same_top}
use Rattle.tt_bitmap.proofs.Turns.{shifted_bit}

-- a word whose columns from number `columns` on are white
abbrev pub IsFree : ℕ → ℕ → Type 0
IsFree columns word = (i : ℕ) → i < 64 - columns → bit_at word i ≡ 0

-- its columns, moved to the right in a word of a row

same_word : (at m : ℕ) → m < at → m / 56 ≡ at / 56 → 64 ≤ at % 56 + (63 - m % 56)
same_word at m less same = omega (arith, less, same)

moved_word : (word columns at m : ℕ) → word < 2 ^ 64 → columns ≤ 57 → IsFree columns word → at % 56 + columns ≤ 56
    → ((m / 56 == at / 56) && in_word (word / 2 ^ (at % 56)) (m % 56)) ≡ (nat_le at m && in_word word (m - at))
moved_word word columns at m fits few free narrow = elim (cases_lt m at) [
  | inl left ↦
      let off : nat_le at m ≡ false = grind (arith, nat_tests) in
      elim (cases_lt (m / 56) (at / 56)) [
        | inl before ↦ let other : (m / 56 == at / 56) ≡ false = grind (arith, nat_tests) in rw (off, other) refl
        | inr from ↦
            let same : m / 56 ≡ at / 56 = omega (arith, left, from) in
            let here : (m / 56 == at / 56) ≡ true = grind (arith, nat_tests) in
            let none : bit_at (word / 2 ^ (at % 56)) (63 - m % 56) ≡ 0 =
            shifted_bit word (at % 56) (63 - m % 56) ∙ bit_at_above word 64 (at % 56 + (63 - m % 56)) fits (same_word at m left same) in
            rw (off, here, none) refl
      ]
  | inr right ↦
      let on : nat_le at m ≡ true = grind (arith, nat_tests) in
      elim (cases_lt (at / 56) (m / 56)) [
        | inl past ↦
            let other : (m / 56 == at / 56) ≡ false = grind (arith, nat_tests) in
            let none : bit_at word (63 - (m - at)) ≡ 0 = free (63 - (m - at)) (omega (arith, past, narrow, few)) in
            rw (on, other, none) refl
        | inr to ↦
            let same : m / 56 ≡ at / 56 = omega (arith, right, to) in
            let here : (m / 56 == at / 56) ≡ true = grind (arith, nat_tests) in
            let place : at % 56 + (63 - m % 56) ≡ 63 - (m - at) = omega (arith, right, same) in
            let bit : bit_at (word / 2 ^ (at % 56)) (63 - m % 56) ≡ bit_at word (63 - (m - at)) =
            shifted_bit word (at % 56) (63 - m % 56) ∙ ap (bit_at word) place in
            rw (on, here, bit) refl
      ]
]

-- a word of a row of n words is no word of another row

same_sum : (x u v : ℕ) → (x + u == x + v) ≡ (u == v)
same_sum x u v = grind (arith, nat_tests)

word_alone : (n r s u v : ℕ) → u < n → v < n → (n * r + u == n * s + v) ≡ ((r == s) && (u == v))
word_alone n r s u v one two = elim (cases_lt r s) [
  | inl above ↦
      let more : n * (r + 1) ≤ n * s = mul-le n (r + 1) n s (omega arith) (omega (arith, above)) in
      let less : n * r + u < n * s + v = omega (arith, more, one) in
      let off : (n * r + u == n * s + v) ≡ false = grind (arith, nat_tests) in
      let other : (r == s) ≡ false = grind (arith, nat_tests) in
      rw (off, other) refl
  | inr not_above ↦ elim (cases_lt s r) [
    | inl below ↦
        let more : n * (s + 1) ≤ n * r = mul-le n (s + 1) n r (omega arith) (omega (arith, below)) in
        let less : n * s + v < n * r + u = omega (arith, more, two) in
        let off : (n * r + u == n * s + v) ≡ false = grind (arith, nat_tests) in
        let other : (r == s) ≡ false = grind (arith, nat_tests) in
        rw (off, other) refl
    | inr not_below ↦
        let same : r ≡ s = omega (arith, not_above, not_below) in
        let here : (s == s) ≡ true = grind (arith, nat_tests) in
        rw (same, here, same_sum (n * s) u v) refl
  ]
]

-- the word as the pixels of row s
pixels_moved : (w r s m at columns word : ℕ) → m < w → at < w → word < 2 ^ 64 → columns ≤ 57 → IsFree columns word → at % 56 + columns ≤ 56
    → ((number_at w r m / 56 == strips w * s + at / 56) && in_word (word / 2 ^ (at % 56)) (number_at w r m % 56))
    ≡ ((r == s) && (nat_le at m && in_word word (m - at)))
pixels_moved w r s m at columns word column has fits few free narrow =
    let place : (56 * (strips w * r) + m) / 56 ≡ strips w * r + m / 56 = omega arith in
    let bit : (56 * (strips w * r) + m) % 56 ≡ m % 56 = omega arith in
    let one : m / 56 < strips w = omega (arith, column) in
    let two : at / 56 < strips w = omega (arith, has) in
    rw (place, bit, word_alone (strips w) r s (m / 56) (at / 56) one two)
    (sym (and_assoc (r == s) (m / 56 == at / 56) (in_word (word / 2 ^ (at % 56)) (m % 56)))
    ∙ ap (λ (x : Bool). (r == s) && x) (moved_word word columns at m fits few free narrow))

-- columns of the box, and columns from `low` on
from_low : (left low c : ℤ) (at m word : ℕ) → pos at ≡ low -ℤ left → left ≤ℤ c → m ≡ unsigned_abs (c -ℤ left)
    → (nat_le at m && in_word word (m - at)) ≡ (int_le low c && in_word word (unsigned_abs (c -ℤ low)))
from_low left low c at m word is from is_m = elim (cases_lt m at) [
  | inl before ↦
      let off : nat_le at m ≡ false = grind (arith, nat_tests) in
      let less : c <ℤ low = omega (arith, ints, is, from, is_m, before) in
      let out : int_le low c ≡ false = grind (arith, ints) in
      rw (off, out) refl
  | inr after ↦
      let on : nat_le at m ≡ true = grind (arith, nat_tests) in
      let more : low ≤ℤ c = omega (arith, ints, is, from, is_m, after) in
      let here : int_le low c ≡ true = grind (arith, ints) in
      let place : m - at ≡ unsigned_abs (c -ℤ low) = omega (arith, ints, is, from, is_m, after) in
      rw (on, here, place) refl
]

-- the box has all columns of the word
held : (b : BoxBitmap) (c j line low : ℤ) (at columns word : ℕ) → columns ≤ 57 → IsFree columns word → is_line b.top b.height line ≡ true
    → pos at ≡ low -ℤ b.left → at + columns ≤ b.width → int_eq j line ≡ true
    → (int_le low c && in_word word (unsigned_abs (c -ℤ low))) ≡ true → has b c j ≡ true
held b c j line low at columns word few free on is within here black =
    let (from, one) = parts (int_le low c) (in_word word (unsigned_abs (c -ℤ low))) black in
    let after : low ≤ℤ c = grind (arith, ints, from) in
    let d : ℕ = unsigned_abs (c -ℤ low) in
    let under : d < columns = elim (cases_lt d columns) [
      | inl less ↦ less
      | inr past ↦
          let none : bit_at word (63 - d) ≡ 0 = free (63 - d) (omega (arith, few, past)) in
          absurd (false≢true (rw none at one))
    ] in
    let more : b.left ≤ℤ c = omega (arith, ints, is, after) in
    let less : c <ℤ (b.left +ℤ pos b.width) = omega (arith, ints, is, after, under, within) in
    let left : int_le b.left c ≡ true = grind (arith, ints) in
    let right : int_lt c (b.left +ℤ pos b.width) ≡ true = grind (arith, ints) in
    let row : is_line b.top b.height j ≡ true = rw (same_line j line here) on in
    rw (left, right, row) refl

-- words made blacker, as the pixels of the box
by_box : (here : Bool) (b : BoxBitmap) (words : List ℕ) (c j : ℤ) (set : ℕ → Bool) (black : Bool) → has b c j ≡ here
    → ((i : ℕ) → pixel words i ≡ (pixel b.words i || set i)) → (has b c j ≡ true → set (number b c j) ≡ black)
    → (has b c j ≡ false → black ≡ false) → is_black (record b { words = words }) c j ≡ (is_black b c j || black)
by_box true b words c j set black here is same out = rw (here, is (number b c j), same here) refl
by_box false b words c j set black here is same out = rw (here, out here) refl

-- a bitmap of which a line was blackened by a word
pub word_blackened : (b : BoxBitmap) (words : List ℕ) (c j line low : ℤ) (begin at columns word : ℕ) → word < 2 ^ 64 → columns ≤ 57
    → IsFree columns word → is_line b.top b.height line ≡ true → line ≤ℤ b.top → pos at ≡ low -ℤ b.left → at < b.width
    → at + columns ≤ b.width → at % 56 + columns ≤ 56 → begin ≡ strips b.width * unsigned_abs (b.top -ℤ line)
    → ((i : ℕ) → pixel words i ≡ (pixel b.words i || ((i / 56 == begin + at / 56) && in_word (word / 2 ^ (at % 56)) (i % 56))))
    → is_black (record b { words = words }) c j ≡ (is_black b c j || in_line line low word c j)
word_blackened b words c j line low begin at columns word fits few free on under is has_it within narrow is_begin set =
    by_box (has b c j) b words c j (λ i. (i / 56 == begin + at / 56) && in_word (word / 2 ^ (at % 56)) (i % 56)) (in_line line low word c j) refl set
    (λ here.
    let place = inside b.left b.top b.width b.height c j here in
    let r : ℕ = unsigned_abs (b.top -ℤ j) in
    let s : ℕ = unsigned_abs (b.top -ℤ line) in
    let m : ℕ = unsigned_abs (c -ℤ b.left) in
    rw is_begin (pixels_moved b.width r s m at columns word place.across has_it fits few free narrow
    ∙ ap (λ (x : Bool). x && (nat_le at m && in_word word (m - at))) (same_top b.top j line place.from_top under)
    ∙ ap (λ (x : Bool). int_eq j line && x) (from_low b.left low c at m word is place.from_left refl)))
    (λ lacks. off_false (int_eq j line) (int_le low c && in_word word (unsigned_abs (c -ℤ low)))
    (λ here black. sym lacks ∙ held b c j line low at columns word few free on is within here black))
