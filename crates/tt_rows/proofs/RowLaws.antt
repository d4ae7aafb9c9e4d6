-- The laws of the rows of a line, row by row.
use Rattle.std.proofs.Common.{◌≡◌, ◌∙◌, refl, sym, ap, ap₂, subst, ℕ, zero, suc, ◌+◌, ◌-◌, ◌<◌, ◌≤◌, ◌⊎◌, Bool, false, List, [], ◌∷◌, ◌++◌, length, take, drop, inl, inr, arith}
use Rattle.std.specs.List.{flat_map}
use Rattle.std.proofs.lemmas.Bool.{both_ways, cases_Bool, cases_lt, cond-true, cond-false, eq-eqb, le-ltb, lt-ltb}
use Rattle.std.proofs.lemmas.List.{drop-drop, drop_all, length-append, length-drop, length-take-le, take-append-drop, take-take, take_at}
use Rattle.tt_rows.specs.declared.row.LineRow.{LineRow}
use Rattle.tt_rows.specs.declared.unit.RowUnit.{RowUnit}
use Rattle.tt_rows.specs.Classes.{is_blank}
use Rattle.tt_rows.specs.RowLaws.{AreBlanks, BreaksOfNeed, DropsBlanks, EachRow, FitsWhole, IsLongest, LinesThatFitStay, Overflows, RowsAreGreedy, RowsDropBlanks, RowsFit, RowsHaveEachUnit, WordsBreakOfNeed, units_of}
use Rattle.tt_rows.specs.Rows.{empty_row, fitting, row_between, row_from, rows, rows_from, whole_words}
use Rattle.tt_rows.specs.Widths.{drawn, drawn_before, part, row_width}
use Rattle.tt_rows.proofs.Fits.{fitting_is_most, fitting_within}
use Rattle.tt_rows.proofs.RowFacts.{by_all, row_is}

-- ---- from row to row

pub one_row : (line : List RowUnit) (room from most : ℕ) → from < length line
    → rows_from line room from (suc most) ≡ row_from line room from ∷ rows_from line room (row_from line room from).next most
unfolding rows_from
one_row line room from most some = cond-true _ _ _ (lt-ltb from (length line) some)

pub no_row : (line : List RowUnit) (room from most : ℕ) → length line ≤ from → rows_from line room from most ≡ []
unfolding rows_from
no_row line room from zero none = refl
no_row line room from (suc most) none = cond-false _ _ _ (le-ltb from (length line) none)

each_from : (P : LineRow → Type 0) (line : List RowUnit) (room : ℕ) → ((from : ℕ) → from < length line → P (row_from line room from))
    → (from most : ℕ) → EachRow P (rows_from line room from most)
unfolding rows_from
each_from P line room holds from zero = tt
each_from P line room holds from (suc most) =
    elim (cases_lt from (length line)) [
      | inl some ↦
          subst (EachRow P) (sym (one_row line room from most some))
          (holds from some, each_from P line room holds (row_from line room from).next most)
      | inr none ↦ subst (EachRow P) (sym (no_row line room from (suc most) none)) tt
    ]

each_row : (P : List RowUnit → LineRow → Type 0) (room : ℕ) → P [] empty_row
    → ((line : List RowUnit) (from : ℕ) → from < length line → P line (row_from line room from))
    → (line : List RowUnit) → EachRow (P line) (rows line room)
unfolding rows
each_row P room empty holds [] = (empty, tt)
each_row P room empty holds (u ∷ us) = each_from (P (u ∷ us)) (u ∷ us) room (holds (u ∷ us)) 0 (length (u ∷ us))

-- ---- each unit stands in a row

units_from : (line : List RowUnit) (room from most : ℕ) → length line ≤ from + most
    → flat_map (units_of line) (rows_from line room from most) ≡ drop from line
units_from line room from zero enough =
    ap (flat_map (units_of line)) (no_row line room from zero (omega (arith, enough))) ∙ sym (drop_all from line (omega (arith, enough)))
units_from line room from (suc most) enough =
    elim (cases_lt from (length line)) [
      | inl some ↦
          let r = row_from line room from in
          let is = row_is line room from some in
          let after = is.after in
          let rest : flat_map (units_of line) (rows_from line room r.next most) ≡ drop r.next line
          = units_from line room r.next most (omega (arith, enough, after)) in
          let here : units_of line r ≡ part line from r.next = ap (λ n. part line n r.next) is.starts in
          let place : from + (r.next - from) ≡ r.next = omega (arith, after) in
          let left : drop (r.next - from) (drop from line) ≡ drop r.next line
          = drop-drop (r.next - from) from line ∙ ap (λ n. drop n line) place in
          ap (flat_map (units_of line)) (one_row line room from most some)
          ∙ ap₂ (λ x y. x ++ y) here (rest ∙ sym left) ∙ take-append-drop (r.next - from) (drop from line)
      | inr none ↦
          ap (flat_map (units_of line)) (no_row line room from (suc most) none) ∙ sym (drop_all from line none)
    ]

pub each_unit : RowsHaveEachUnit
unfolding rows
each_unit [] room = refl
each_unit (u ∷ us) room = units_from (u ∷ us) room 0 (length (u ∷ us)) (omega arith)

-- ---- the blanks at the end of a row

with_blanks : (u : RowUnit) (us ds bs : List RowUnit) → us ≡ ds ++ bs → AreBlanks bs
    → (cs : List RowUnit) × (u ∷ us ≡ drawn_before u ds ++ cs) × AreBlanks cs
with_blanks u us [] bs all blanks =
    elim (cases_Bool (is_blank u.character)) [
      | inl blank ↦
          let none : drawn_before u [] ≡ [] = cond-true _ _ _ blank in
          (u ∷ bs, ap (λ l. u ∷ l) all ∙ sym (ap (λ l. l ++ u ∷ bs) none), (blank, blanks))
      | inr letter ↦
          let one : drawn_before u [] ≡ u ∷ [] = cond-false _ _ _ letter in
          (bs, ap (λ l. u ∷ l) all ∙ sym (ap (λ l. l ++ bs) one), blanks)
    ]
with_blanks u us (d ∷ ds) bs all blanks = (bs, ap (λ l. u ∷ l) all, blanks)

-- the units that are drawn, and the blanks after them
blanks_after : (us : List RowUnit) → (bs : List RowUnit) × (us ≡ drawn us ++ bs) × AreBlanks bs
blanks_after [] = ([], refl, tt)
blanks_after (u ∷ us) =
    let rest = blanks_after us in
    with_blanks u us (drawn us) rest.0 rest.1 rest.2

drops_between : (line : List RowUnit) (from next : ℕ) (broken : Bool) → from ≤ next → next ≤ length line
    → DropsBlanks line (row_between line from next broken)
drops_between line from next broken order within =
    let us = part line from next in
    let all = blanks_after us in
    let bs = all.0 in
    let d = length (drawn us) in
    let left = length-drop from line in
    let long : length us ≡ next - from = length-take-le (next - from) (drop from line) (omega (arith, left, order, within)) in
    let parts : length us ≡ d + length bs = ap length all.1 ∙ length-append (drawn us) bs in
    let front : take d us ≡ drawn us = ap (take d) all.1 ∙ take_at (drawn us) bs d refl in
    let short : take d us ≡ take d (drop from line) = take-take d (next - from) (drop from line) (omega (arith, long, parts)) in
    let place : from + d - from ≡ d = omega arith in
    let here : part line from (from + d) ≡ drawn us = ap (λ n. take n (drop from line)) place ∙ sym short ∙ front in
    (bs, all.1 ∙ ap (λ l. l ++ bs) (sym here), all.2)

pub drop_blanks : RowsDropBlanks
drop_blanks line room =
    each_row DropsBlanks room ([], refl, tt)
    (λ line from some.
    let is = row_is line room from some in
    let r = row_from line room from in
    let after = is.after in
    subst (DropsBlanks line) (sym is.drawn.1) (drops_between line from r.next is.drawn.0 (omega (arith, after)) is.within))
    line

-- ---- rows fit, and are as long as they may be

pub rows_fit : RowsFit
rows_fit line room =
    each_row (λ line. FitsWhole line room) room (λ sure. (inr refl, let none : 0 ≤ room = omega arith in none))
    (λ line from some sure.
    let is = row_is line room from some in
    let r = row_from line room from in
    let both = is.whole sure in (both.0, subst (λ n. row_width (part line n r.next) ≤ room) (sym is.starts) both.1))
    line

pub rows_are_longest : RowsAreGreedy
rows_are_longest line room =
    each_row (λ line. IsLongest line room) room (λ j above within ends. absurd (omega (arith, above, within)))
    (λ line from some j above within ends.
    let is = row_is line room from some in
    subst (λ n. Overflows line room n j) (sym is.starts) (is.longest j above within ends))
    line

pub words_break : WordsBreakOfNeed
words_break line room =
    each_row (λ line. BreaksOfNeed line room) room (λ clash. absurd (both_ways false refl clash))
    (λ line from some sure.
    let is = row_is line room from some in
    let r = row_from line room from in
    let starts = is.starts in (
      λ j above within ends. subst (λ n. Overflows line room n j) (sym starts) (is.need sure j (omega (arith, above, starts)) within ends),
      subst (λ n. (r.next ≡ n + 1) ⊎ (row_width (part line n r.next) ≤ room)) (sym starts) (is.one sure),
      λ left. subst (λ n. Overflows line room n (r.next + 1)) (sym starts) (is.more sure left),
    ))
    line

-- ---- a line that fits

all_fit : (line : List RowUnit) (room : ℕ) → ((k : ℕ) → k ≤ length line → row_width (take k line) ≤ room)
    → fitting room line ≡ length line
all_fit line room fit =
    let few = fitting_within room line in
    elim (cases_lt (fitting room line) (length line)) [
      | inl less ↦
          let over = fitting_is_most room line less in
          let low = fit (suc (fitting room line)) (omega (arith, less)) in
          absurd (omega (arith, over, low))
      | inr most ↦ omega (arith, few, most)
    ]

whole_line : (line : List RowUnit) (room : ℕ) → fitting room line ≡ length line
    → row_from line room 0 ≡ row_between line 0 (length line) false
unfolding row_from
whole_line line room all =
    let count = fitting room line in
    let sum : 0 + count ≡ length line = omega (arith, all) in
    by_all line 0 count (whole_words line 0 count) (eq-eqb (0 + count) (length line) sum)
    ∙ ap (λ n. row_between line 0 n false) sum

pub lines_stay : LinesThatFitStay
unfolding rows
lines_stay [] room fit = refl
lines_stay (u ∷ us) room fit =
    let line : List RowUnit = u ∷ us in
    let whole = whole_line line room (all_fit line room fit) in
    let next : (row_from line room 0).next ≡ length line = ap (λ (r : LineRow). r.next) whole in
    let some : 0 < length line = omega arith in
    one_row line room 0 (length us) some
    ∙ ap₂ (λ (r : LineRow) (rs : List LineRow). r ∷ rs) whole
    (no_row line room (row_from line room 0).next (length us) (omega (arith, next)))
