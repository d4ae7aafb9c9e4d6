-- The rows that a bitmap and a band have in common.
use Rattle.std.proofs.Common.{◌≡◌, sym, refl, ℕ, ◌+◌, ◌-◌, ◌<◌, ◌≤◌, true, false, ◌&&◌, nat_le, nat_lt, min, ℤ, pos, ◌+ℤ◌, ◌-ℤ◌, ◌≤ℤ◌, ◌<ℤ◌, int_le, int_lt, unsigned_abs, arith, inl, inr}
use Rattle.std.proofs.lemmas.Bool.Decides.{nat_tests}
use Rattle.std.proofs.lemmas.Bool.{cases_lt}
use Rattle.std.proofs.lemmas.Int.{ints}
use Rattle.tt_bitmap.specs.Bitmaps.{is_line}
use Rattle.tt_bitmap.proofs.Bools.{never}

-- lines from `top` down, and rows whose lines are from `line` down
pub record IsShared (top line : ℤ) (height rows first own count : ℕ) : Type 0 where
  pub above : (i : ℕ) → i < first → (top +ℤ pos i) <ℤ line
  pub from : (i : ℕ) → first ≤ i → i < rows → line ≤ℤ (top +ℤ pos i)
  pub under : (i : ℕ) → i < own → (line +ℤ pos i) <ℤ top
  pub beside : (i : ℕ) → own ≤ i → i < height → top ≤ℤ (line +ℤ pos i)
  pub first_most : first ≤ rows
  pub own_most : own ≤ height
  pub is_count : count ≡ min (rows - first) (height - own)

-- the first rows of both have the same line, if there are any
meet : (top line : ℤ) (height rows first own count i : ℕ) → IsShared top line height rows first own count → first ≤ i → i < first + count
    → (line -ℤ pos first) ≡ (top -ℤ pos own)
meet top line height rows first own count i is from to =
    let is_count = is.is_count in
    let low = is.from first (omega arith) (omega (arith, is_count, from, to)) in
    let high = is.beside own (omega arith) (omega (arith, is_count, from, to)) in
    elim (cases_lt 0 first) [
      | inl some ↦
          let before = is.above (first - 1) (omega (arith, some)) in
          elim (cases_lt 0 own) [
            | inl more ↦
                let under = is.under (own - 1) (omega (arith, more)) in
                absurd (omega (arith, ints, before, under))
            | inr none ↦ omega (arith, ints, low, before, none, some)
          ]
      | inr none ↦ elim (cases_lt 0 own) [
        | inl more ↦
            let under = is.under (own - 1) (omega (arith, more)) in
            omega (arith, ints, high, under, none, more)
        | inr no_more ↦ omega (arith, ints, low, high, none, no_more)
      ]
    ]

pub row_shared : (top line : ℤ) (height rows first own count i : ℕ) → IsShared top line height rows first own count → first ≤ i → i < first + count
    → unsigned_abs (top -ℤ (line -ℤ pos i)) ≡ own + (i - first)
row_shared top line height rows first own count i is from to =
    let met = meet top line height rows first own count i is from to in
    omega (arith, ints, met, from)

pub lies_shared : (top line : ℤ) (height rows first own count i : ℕ) → IsShared top line height rows first own count → i < rows
    → (nat_le first i && nat_lt i (first + count)) ≡ is_line top height (line -ℤ pos i)
lies_shared top line height rows first own count i is below = elim (cases_lt i first) [
  | inl before ↦
      let above = is.above i before in
      let off : nat_le first i ≡ false = grind (arith, nat_tests) in
      let out : int_le (line -ℤ pos i) top ≡ false = let over : top <ℤ (line -ℤ pos i) = omega (arith, ints, above) in grind (arith, ints) in
      rw (off, out) (sym (never (int_lt (top -ℤ pos height) (line -ℤ pos i))))
  | inr from ↦
      let under_top = is.from i from below in
      let on : nat_le first i ≡ true = grind (arith, nat_tests) in
      let has : int_le (line -ℤ pos i) top ≡ true = let less : (line -ℤ pos i) ≤ℤ top = omega (arith, ints, under_top) in grind (arith, ints) in
      elim (cases_lt i (first + count)) [
        | inl to ↦
            let met = meet top line height rows first own count i is from to in
            let is_count = is.is_count in
            let yes : nat_lt i (first + count) ≡ true = grind (arith, nat_tests) in
            let few : i - first < height - own = omega (arith, is_count, from, to) in
            let low : int_lt (top -ℤ pos height) (line -ℤ pos i) ≡ true =
            let more : (top -ℤ pos height) <ℤ (line -ℤ pos i) = omega (arith, ints, met, few, from) in grind (arith, ints) in
            rw (on, has, yes, low) refl
        | inr past ↦
            let is_count = is.is_count in
            let no_more : nat_lt i (first + count) ≡ false = grind (arith, nat_tests) in
            let many : height - own ≤ i - first = omega (arith, is_count, from, past, below) in
            let own_most = is.own_most in
            let low : int_lt (top -ℤ pos height) (line -ℤ pos i) ≡ false =
            let less : (line -ℤ pos i) ≤ℤ (top -ℤ pos height) = elim (cases_lt 0 own) [
              | inl some ↦
                  let under = is.under (own - 1) (omega (arith, some)) in
                  elim (cases_lt 0 first) [
                    | inl more ↦
                        let before = is.above (first - 1) (omega (arith, more)) in
                        absurd (omega (arith, ints, before, under))
                    | inr none ↦ omega (arith, ints, under, many, none, some, own_most)
                  ]
              | inr none ↦
                  let reached = is.from first (omega arith) (omega (arith, from, below)) in
                  omega (arith, ints, reached, many, none, from)
            ] in grind (arith, ints) in
            rw (on, has, no_more, low) refl
      ]
]
