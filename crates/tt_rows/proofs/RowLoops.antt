-- The loops over a row's units, and from row to row.
use Rattle.std.proofs.Common.{◌≡◌, ◌∙◌, refl, sym, ap, ℕ, zero, suc, ◌+◌, ◌-◌, ◌<◌, ◌≤◌, Bool, true, false, List, [], ◌∷◌, ◌++◌, append-nil, append_assoc, length, map, sum, take, drop, get_or, arith}
use Rattle.std.specs.List.{sum_by}
use Rattle.std.proofs.lemmas.Bool.{cond-true, cond-false}
use Rattle.std.proofs.lemmas.List.{drop_all, drop_more, length-take-le, take_all, take_more}
use Rattle.std.proofs.lemmas.List.Sums.{sum-map, sum_by-cons}
use Rattle.tt_rows.specs.declared.row.LineRow.{LineRow}
use Rattle.tt_rows.specs.declared.unit.RowUnit.{RowUnit}
use Rattle.tt_rows.specs.Breaks.{no_unit}
use Rattle.tt_rows.specs.Classes.{is_blank}
use Rattle.tt_rows.specs.Greatest.{greatest}
use Rattle.tt_rows.specs.Rows.{empty_row, row_from, rows, rows_from}
use Rattle.tt_rows.specs.Widths.{drawn, drawn_width, step_before, stepped_row}
use Rattle.tt_rows.proofs.RowLaws.{no_row, one_row}
use Rattle.tt_rows.proofs.Widths.{drawn_blank, drawn_letter}

-- ---- the greatest number that passes

pub greatest_less : (p : ℕ → Bool) (n : ℕ) → 0 < n → p n ≡ false → greatest p n ≡ greatest p (n - 1)
greatest_less p zero some fails = absurd (omega (arith, some))
greatest_less p (suc n) some fails =
    let here : greatest p (suc n) ≡ greatest p n = cond-false _ _ _ fails in
    let less : n ≡ suc n - 1 = omega arith in
    here ∙ ap (greatest p) less

pub greatest_here : (p : ℕ → Bool) (n : ℕ) → 0 < n → p n ≡ true → greatest p n ≡ n
greatest_here p zero some holds = absurd (omega (arith, some))
greatest_here p (suc n) some holds = cond-true _ _ _ holds

-- ---- the units of a row that are drawn

-- the first of some units, and the last of those
one_less : (us : List RowUnit) (n : ℕ) → 0 < n → n ≤ length us
    → take n us ≡ take (n - 1) us ++ get_or us (n - 1) no_unit ∷ []
one_less us n some within =
    let count : n - 1 + 1 ≡ n = omega (arith, some) in
    sym (ap (λ k. take k us) count) ∙ take_more us (n - 1) no_unit (omega (arith, some, within))

pub drop_blank : (us : List RowUnit) (n : ℕ) → 0 < n → n ≤ length us → is_blank (get_or us (n - 1) no_unit).character ≡ true
    → drawn (take n us) ≡ drawn (take (n - 1) us)
drop_blank us n some within blank =
    ap drawn (one_less us n some within) ∙ drawn_blank (take (n - 1) us) (get_or us (n - 1) no_unit) blank

pub keep_letter : (us : List RowUnit) (n : ℕ) → 0 < n → n ≤ length us → is_blank (get_or us (n - 1) no_unit).character ≡ false
    → length (drawn (take n us)) ≡ n
keep_letter us n some within letter =
    let whole : drawn (take n us) ≡ take n us
    = ap drawn (one_less us n some within) ∙ drawn_letter (take (n - 1) us) (get_or us (n - 1) no_unit) [] letter
    ∙ sym (one_less us n some within) in
    ap length whole ∙ length-take-le n us within

pub all_units : (us : List RowUnit) → drawn (take (length us) us) ≡ drawn us
all_units us = ap drawn (take_all (length us) us (omega arith))

-- ---- the rows

-- the rows so far, and then at most so many from a unit on
pub record IsLeft (line : List RowUnit) (room : ℕ) (made : List LineRow) (from : ℕ) : Type 0 where
  pub most : ℕ
  pub enough : length line ≤ from + most
  pub all : made ++ rows_from line room from most ≡ rows_from line room 0 (length line)

pub none_made : (line : List RowUnit) (room : ℕ) → IsLeft line room [] 0
none_made line room = record { most = length line; enough = omega arith; all = refl }

pub one_made : (line : List RowUnit) (room : ℕ) (made : List LineRow) (from : ℕ) → from < length line
    → from < (row_from line room from).next → IsLeft line room made from
    → IsLeft line room (made ++ row_from line room from ∷ []) (row_from line room from).next
one_made line room made from some after left =
    let enough = left.enough in
    let k = left.most - 1 in
    let more : left.most ≡ suc k = omega (arith, enough, some) in
    let r = row_from line room from in
    let split : rows_from line room from left.most ≡ r ∷ rows_from line room r.next k
    = ap (rows_from line room from) more ∙ one_row line room from k some in
    record {
      most = k;
      enough = omega (arith, enough, after, more);
      all = append_assoc made (r ∷ []) (rows_from line room r.next k) ∙ sym (ap (λ l. made ++ l) split) ∙ left.all;
    }

pub all_made : (line : List RowUnit) (room : ℕ) (made : List LineRow) (from : ℕ) → 0 < length line → length line ≤ from
    → IsLeft line room made from → made ≡ rows line room
unfolding rows
all_made [] room made from some over left = absurd (omega (arith, some))
all_made (u ∷ us) room made from some over left =
    sym (append-nil made) ∙ sym (ap (λ l. made ++ l) (no_row (u ∷ us) room from left.most over)) ∙ left.all

pub empty_rows : (line : List RowUnit) (room : ℕ) → length line ≡ 0 → rows line room ≡ empty_row ∷ []
unfolding rows
empty_rows [] room none = refl
empty_rows (u ∷ us) room none = absurd (omega (arith, none))

-- ---- the glyphs of a row

pub one_step : (us : List RowUnit) (made : List (ℕ × ℕ)) (i step : ℕ) → i < length us
    → step ≡ step_before (get_or us i no_unit) (drop (i + 1) us)
    → (made ++ ((get_or us i no_unit).glyph, step) ∷ []) ++ stepped_row (drop (i + 1) us) ≡ made ++ stepped_row (drop i us)
one_step us made i step below is =
    let u = get_or us i no_unit in
    let here : stepped_row (drop i us) ≡ (u.glyph, step) ∷ stepped_row (drop (i + 1) us)
    = ap stepped_row (drop_more us i no_unit below)
    ∙ ap (λ (s : ℕ). (u.glyph, s) ∷ stepped_row (drop (i + 1) us)) (sym is) in
    append_assoc made ((u.glyph, step) ∷ []) (stepped_row (drop (i + 1) us)) ∙ sym (ap (λ l. made ++ l) here)

pub all_stepped : (us : List RowUnit) (made : List (ℕ × ℕ)) (i : ℕ) → length us ≤ i
    → made ++ stepped_row (drop i us) ≡ made
all_stepped us made i over = ap (λ l. made ++ stepped_row l) (drop_all i us over) ∙ append-nil made

pub stepped_glyphs : (us : List RowUnit) → map (λ (p : ℕ × ℕ). p.0) (stepped_row us) ≡ map (λ (u : RowUnit). u.glyph) us
stepped_glyphs [] = refl
stepped_glyphs (u ∷ us) = ap (λ l. u.glyph ∷ l) (stepped_glyphs us)

sum_of_stepped : (us : List RowUnit) → sum_by (λ (p : ℕ × ℕ). p.1) (stepped_row us) ≡ drawn_width us
sum_of_stepped [] = refl
sum_of_stepped (u ∷ us) =
    sum_by-cons (λ (p : ℕ × ℕ). p.1) (u.glyph, step_before u us) (stepped_row us) ∙ ap (λ n. step_before u us + n) (sum_of_stepped us)

pub stepped_width : (us : List RowUnit) → sum (map (λ (p : ℕ × ℕ). p.1) (stepped_row us)) ≡ drawn_width us
stepped_width us = sum-map (λ (p : ℕ × ℕ). p.1) (stepped_row us) ∙ sum_of_stepped us
