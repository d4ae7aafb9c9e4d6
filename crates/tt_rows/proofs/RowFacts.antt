-- What is true of the row from a unit on.
use Rattle.std.proofs.Common.{◌≡◌, ◌∙◌, refl, sym, ap, subst, ℕ, suc, ◌+◌, ◌-◌, ◌<◌, ◌≤◌, ◌⊎◌, Bool, true, false, ◌==◌, List, length, take, drop, inl, inr, arith}
use Rattle.std.specs.Prelude.{nat_lt}
use Rattle.std.proofs.lemmas.Bool.{both_ways, cases_eq, cases_lt, cond-true, cond-false, eq-eqb, le-ltb, lt-ltb, ne_eqb}
use Rattle.std.proofs.lemmas.List.{length-drop}
use Rattle.tt_rows.specs.declared.row.LineRow.{LineRow}
use Rattle.tt_rows.specs.declared.unit.RowUnit.{RowUnit}
use Rattle.tt_rows.specs.Breaks.{breaks_before}
use Rattle.tt_rows.specs.RowLaws.{MayEnd, Overflows}
use Rattle.tt_rows.specs.Rows.{fitting, one_at_least, row_between, row_by, row_from, whole_words}
use Rattle.tt_rows.specs.Widths.{part, row_width}
use Rattle.tt_rows.proofs.Fits.{fitting_fits, fitting_is_most, fitting_within}
use Rattle.tt_rows.proofs.Greatest.{greatest_beyond, greatest_holds, greatest_within}

-- the number of whole words
pub words_within : (line : List RowUnit) (from most : ℕ) → whole_words line from most ≤ most
unfolding whole_words
words_within line from most = greatest_within (λ k. breaks_before line (from + k)) most

words_end : (line : List RowUnit) (from most : ℕ) → 0 < whole_words line from most
    → breaks_before line (from + whole_words line from most) ≡ true
unfolding whole_words
words_end line from most some = greatest_holds (λ k. breaks_before line (from + k)) most some

words_longest : (line : List RowUnit) (from most k : ℕ) → whole_words line from most < k → k ≤ most
    → breaks_before line (from + k) ≡ false
unfolding whole_words
words_longest line from most k above within = greatest_beyond (λ k. breaks_before line (from + k)) most k above within

-- a row that ends between two units is told by the number of its units
part_by : (line : List RowUnit) (from j k : ℕ) → from + k ≡ j → part line from j ≡ take k (drop from line)
part_by line from j k sum = let n : j - from ≡ k = omega (arith, sum) in ap (λ n. take n (drop from line)) n

-- so many units fit, and with one more a row is wider
fits_in : (line : List RowUnit) (room from j : ℕ) → from ≤ j → j ≤ from + fitting room (drop from line)
    → row_width (part line from j) ≤ room
fits_in line room from j after few = fitting_fits room (drop from line) (j - from) (omega (arith, after, few))

overflows : (line : List RowUnit) (room from j : ℕ) → from + fitting room (drop from line) < length line
    → from + fitting room (drop from line) < j → Overflows line room from j
overflows line room from j some above =
    let count = fitting room (drop from line) in
    let long = length-drop from line in
    let over = fitting_is_most room (drop from line) (omega (arith, some, long)) in
    let k = suc (from + count) in
    let same : part line from k ≡ take (suc count) (drop from line) = part_by line from k (suc count) (omega arith) in
    (k, omega arith, omega (arith, above), subst (λ (l : List RowUnit). room < row_width l) (sym same) over)

pub record IsRow (line : List RowUnit) (room from : ℕ) (r : LineRow) : Type 0 where
  pub starts : r.from ≡ from
  pub after : from < r.next
  pub within : r.next ≤ length line
  pub drawn : (broken : Bool) × (r ≡ row_between line from r.next broken)
  pub whole : r.broken ≡ false → MayEnd line r.next × (row_width (part line from r.next) ≤ room)
  pub longest : (j : ℕ) → r.next < j → j ≤ length line → MayEnd line j → Overflows line room from j
  pub need : r.broken ≡ true → (j : ℕ) → from < j → j ≤ length line → MayEnd line j → Overflows line room from j
  pub one : r.broken ≡ true → (r.next ≡ from + 1) ⊎ (row_width (part line from r.next) ≤ room)
  pub more : r.broken ≡ true → r.next < length line → Overflows line room from (r.next + 1)

-- the three ways in which a row ends
last_row : (line : List RowUnit) (room from : ℕ) → from < length line → from + fitting room (drop from line) ≡ length line
    → IsRow line room from (row_between line from (from + fitting room (drop from line)) false)
last_row line room from some all =
    let count = fitting room (drop from line) in
    record {
      starts = refl;
      after = omega (arith, some, all);
      within = omega (arith, all);
      drawn = (false, refl);
      whole = λ sure. (inr all, fits_in line room from (from + count) (omega arith) (omega arith));
      longest = λ j above within ends. absurd (omega (arith, above, within, all));
      need = λ clash. absurd (both_ways false refl clash);
      one = λ clash. absurd (both_ways false refl clash);
      more = λ clash. absurd (both_ways false refl clash);
    }

-- a place where a row may end after the last whole word is one that does not fit
ends_over : (line : List RowUnit) (room from j : ℕ) → from + fitting room (drop from line) < length line
    → from + whole_words line from (fitting room (drop from line)) < j → MayEnd line j → Overflows line room from j
ends_over line room from j some above ends =
    let count = fitting room (drop from line) in
    elim (cases_lt (from + count) j) [
      | inl over ↦ overflows line room from j some over
      | inr fits ↦
          elim ends [
            | inl breaks ↦
                let k = j - from in
                let place : from + k ≡ j = omega (arith, above) in
                let none : breaks_before line (from + k) ≡ false = words_longest line from count k (omega (arith, above)) (omega (arith, fits)) in
                let here : breaks_before line j ≡ false = subst (λ n. breaks_before line n ≡ false) place none in
                let clash = sym here ∙ breaks in cc
            | inr last ↦ absurd (omega (arith, last, fits, some))
          ]
    ]

word_row : (line : List RowUnit) (room from : ℕ) → from + fitting room (drop from line) < length line
    → 0 < whole_words line from (fitting room (drop from line))
    → IsRow line room from (row_between line from (from + whole_words line from (fitting room (drop from line))) false)
word_row line room from some words =
    let count = fitting room (drop from line) in
    let whole = whole_words line from count in
    let few = words_within line from count in
    record {
      starts = refl;
      after = omega (arith, words);
      within = omega (arith, few, some);
      drawn = (false, refl);
      whole = λ sure. (inl (words_end line from count words), fits_in line room from (from + whole) (omega arith) (omega (arith, few)));
      longest = λ j above within ends. ends_over line room from j some above ends;
      need = λ clash. absurd (both_ways false refl clash);
      one = λ clash. absurd (both_ways false refl clash);
      more = λ clash. absurd (both_ways false refl clash);
    }

broken_row : (line : List RowUnit) (room from : ℕ) → from + fitting room (drop from line) < length line
    → whole_words line from (fitting room (drop from line)) ≡ 0
    → IsRow line room from (row_between line from (from + one_at_least (fitting room (drop from line))) true)
broken_row line room from some none =
    let count = fitting room (drop from line) in
    elim (cases_eq count 0) [
      | inl zero_fit ↦
          let one : one_at_least count ≡ 1 = cond-true _ _ _ (eq-eqb count 0 zero_fit) in
          subst (λ n. IsRow line room from (row_between line from (from + n) true)) (sym one)
          (record {
            starts = refl;
            after = omega arith;
            within = omega (arith, some);
            drawn = (true, refl);
            whole = λ clash. absurd (both_ways true clash refl);
            longest = λ j above within ends. ends_over line room from j some (omega (arith, above, none)) ends;
            need = λ sure j above within ends. ends_over line room from j some (omega (arith, above, none)) ends;
            one = λ sure. inl refl;
            more = λ sure left. overflows line room from (from + 1 + 1) some (omega (arith, zero_fit));
          })
      | inr some_fit ↦
          let one : one_at_least count ≡ count = cond-false _ _ _ (ne_eqb count 0 some_fit) in
          let more : 0 < count = elim (cases_lt 0 count) [ inl above ↦ above | inr least ↦ absurd (some_fit (omega (arith, least))) ] in
          subst (λ n. IsRow line room from (row_between line from (from + n) true)) (sym one)
          (record {
            starts = refl;
            after = omega (arith, more);
            within = omega (arith, some);
            drawn = (true, refl);
            whole = λ clash. absurd (both_ways true clash refl);
            longest = λ j above within ends. ends_over line room from j some (omega (arith, above, none)) ends;
            need = λ sure j above within ends. ends_over line room from j some (omega (arith, above, none)) ends;
            one = λ sure. inr (fits_in line room from (from + count) (omega arith) (omega arith));
            more = λ sure left. overflows line room from (from + count + 1) some (omega arith);
          })
    ]

-- the three ways in which the definition goes
pub by_all : (line : List RowUnit) (from count words : ℕ) → (from + count == length line) ≡ true
    → row_by line from count words ≡ row_between line from (from + count) false
by_all line from count words all = cond-true _ _ _ all

by_words : (line : List RowUnit) (from count words : ℕ) → (from + count == length line) ≡ false → nat_lt 0 words ≡ true
    → row_by line from count words ≡ row_between line from (from + words) false
by_words line from count words left some = cond-false _ _ _ left ∙ cond-true _ _ _ some

by_units : (line : List RowUnit) (from count words : ℕ) → (from + count == length line) ≡ false → nat_lt 0 words ≡ false
    → row_by line from count words ≡ row_between line from (from + one_at_least count) true
by_units line from count words left none = cond-false _ _ _ left ∙ cond-false _ _ _ none

pub row_is : (line : List RowUnit) (room from : ℕ) → from < length line → IsRow line room from (row_from line room from)
unfolding row_from
row_is line room from some =
    let count = fitting room (drop from line) in
    let words = whole_words line from count in
    let long = length-drop from line in
    let few = fitting_within room (drop from line) in
    elim (cases_eq (from + count) (length line)) [
      | inl all ↦
          subst (IsRow line room from) (sym (by_all line from count words (eq-eqb (from + count) (length line) all)))
          (last_row line room from some all)
      | inr fewer ↦
          let left : from + count < length line =
          elim (cases_lt (from + count) (length line)) [ inl left ↦ left | inr over ↦ absurd (fewer (omega (arith, over, few, long, some))) ] in
          let not_all = ne_eqb (from + count) (length line) fewer in
          elim (cases_lt 0 words) [
            | inl any ↦
                subst (IsRow line room from) (sym (by_words line from count words not_all (lt-ltb 0 words any)))
                (word_row line room from left any)
            | inr none ↦
                subst (IsRow line room from) (sym (by_units line from count words not_all (le-ltb 0 words none)))
                (broken_row line room from left (omega (arith, none)))
          ]
    ]
