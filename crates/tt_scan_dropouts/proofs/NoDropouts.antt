-- Where all contours are closed, no free gap is crossed both ways and no end that counts lies on a line, there are no
-- dropouts.
use Rattle.std.proofs.Common.{◌≡◌, refl, sym, ap, ap₂, ◌∙◌, ℕ, ◌<◌, Bool, true, false, not, ◌&&◌, ◌||◌, List, [], ◌∷◌, Option, Some, None, map, get_or, length, inl, inr, arith}
use Rattle.std.specs.Prelude.{ℤ, pos, ◌+ℤ◌, All}
use Rattle.std.specs.List.{list_any}
use Rattle.std.specs.Ordering.{int_eq}
use Rattle.std.proofs.lemmas.Bool.{cases_Bool}
use Rattle.std.proofs.lemmas.Int.{ints}
use Rattle.std.proofs.lemmas.List.Elements.{All-map}
use Rattle.std.proofs.lemmas.List.Folds.{list_any_at, list_any_none}
use Rattle.tt_scan.specs.Contours.{AreEnds, IsClosed, contours_at}
use Rattle.tt_scan_edges.specs.Winding.{is_black}
use Rattle.tt_scan_edges.specs.declared.edge.Edge.{Edge}
use Rattle.tt_scan_gaps.specs.BothWays.{NoneFreeBothWays, crosses_gap, goes_through, is_black_seen, is_through}
use Rattle.tt_scan_gaps.specs.Crossings.{agree, centre, crossings, has_end_on_line, is_on_line, touches}
use Rattle.tt_scan_gaps.specs.Dots.{asks, ends_box, has_dot, has_dot_box, is_boxed_as_dot, is_dot, is_dot_in}
use Rattle.tt_scan_gaps.specs.Seen.{turned_round}
use Rattle.tt_scan_gaps.specs.declared.extent.Extents.{Extents}
use Rattle.tt_scan_dropouts.specs.Dropouts.{edges_of, is_added_by_columns, is_added_by_rows, is_dropout, is_inked, outline_turned, row_adds, rules_turned}
use Rattle.tt_scan_gaps.specs.Gaps.{is_free}
use Rattle.tt_scan_gaps.specs.Walk.{is_in_free_gap, some_in_free_gap}
use Rattle.tt_scan_gaps.specs.declared.mark.Crossing.{Crossing}
use Rattle.tt_scan_gaps.specs.Boxes.{columns_in, rows_in}
use Rattle.tt_scan_dropouts.specs.declared.boxed.BoxedRules.{BoxedRules}
use Rattle.tt_scan_gaps.specs.declared.seen.Over.TheVariants as over
use Rattle.tt_scan_dropouts.proofs.BothWays.{rows_crossed}
use Rattle.tt_scan_dropouts.proofs.NoFreeGap.{none_touched, nothing_added, still_none}
use Rattle.tt_scan_dropouts.proofs.Outlines.{edges_at, ends_turned, turned_at}
use Rattle.tt_scan_dropouts.proofs.TurnedWinding.{columns_crossed}

-- gaps that are free are crossed both ways or not at all
abbrev pub IsBalanced : (ℤ → ℤ → Bool) → List Edge → Type 0
IsBalanced black es = (c j : ℤ) → is_free black c j ≡ true → crosses_gap true es j c ≡ crosses_gap false es j c

eq_self : (a : ℤ) → int_eq a a ≡ true
eq_self a = grind (arith, ints)

own_way : (up : Bool) → agree up up ≡ true
own_way true = refl
own_way false = refl

goes_itself : (q : Crossing) → is_through q.up q.line q.gap q ≡ true
goes_itself q = rw (eq_self q.line, eq_self q.gap, own_way q.up) refl

-- of two equal tests both pass where one does
both_hold : (f : Bool → Bool) → f true ≡ f false → (up : Bool) → f up ≡ true → (f true && f false) ≡ true
both_hold f same true is = ap₂ (λ a b. a && b) is (sym same ∙ is)
both_hold f same false is = ap₂ (λ a b. a && b) (same ∙ is) is

-- a crossing lies in no free gap
not_free : (black : ℤ → ℤ → Bool) (es : List Edge) → IsBalanced black es → NoneFreeBothWays black es
    → (i : ℕ) (d : Edge) → i < length es → (k : ℕ) (q : Crossing) → k < length (crossings (get_or es i d))
    → is_free black (get_or (crossings (get_or es i d)) k q).gap (get_or (crossings (get_or es i d)) k q).line ≡ false
not_free black es balanced none i d within k p less =
    let q = get_or (crossings (get_or es i d)) k p in
    elim (cases_Bool (is_free black q.gap q.line)) [
      | inl free ↦
          let through : goes_through q.up q.line q.gap (get_or es i d) ≡ true =
          list_any_at (is_through q.up q.line q.gap) (crossings (get_or es i d)) k p less (goes_itself q) in
          let crossed : crosses_gap q.up es q.line q.gap ≡ true =
          list_any_at (goes_through q.up q.line q.gap) es i d within through in
          none q.line q.gap
          (both_hold (λ up. crosses_gap up es q.line q.gap) (balanced q.gap q.line free) q.up crossed)
      | inr not ↦ not
    ]

-- no edge makes a mark in a free gap
pub nothing_free_by : (stubs : Bool) (black : ℤ → ℤ → Bool) (es : List Edge) → IsBalanced black es → NoneFreeBothWays black es
    → All (λ e. (stubs && some_in_free_gap black (touches e)) ≡ false) es
    → list_any (is_in_free_gap stubs black) es ≡ false
nothing_free_by stubs black es balanced none off = list_any_none (is_in_free_gap stubs black) es (λ i d within.
    let crossed : some_in_free_gap black (crossings (get_or es i d)) ≡ false =
    list_any_none (λ (q : Crossing). is_free black q.gap q.line) (crossings (get_or es i d))
    (not_free black es balanced none i d within) in
    rw crossed (off i d within))

pub nothing_free : (stubs : Bool) (black : ℤ → ℤ → Bool) (es : List Edge) → IsBalanced black es → NoneFreeBothWays black es
    → All (λ e. (stubs && (is_on_line e.ay || is_on_line e.by)) ≡ false) es
    → list_any (is_in_free_gap stubs black) es ≡ false
nothing_free stubs black es balanced none off =
    nothing_free_by stubs black es balanced none (λ i d within. none_touched stubs black (get_or es i d) (off i d within))

-- ends that count lie on no line
none_of_four : (a b c d : Bool) → ((a || b) || (c || d)) ≡ false → ((a || c) ≡ false) × ((b || d) ≡ false)
none_of_four true b c d is = absurd cc
none_of_four false true c d is = absurd cc
none_of_four false false true d is = absurd cc
none_of_four false false false true is = absurd cc
none_of_four false false false false is = (refl, refl)

not_one : (es : List Edge) (i : ℕ) (d : Edge) → i < length es → list_any has_end_on_line es ≡ false
    → has_end_on_line (get_or es i d) ≡ false
not_one es i d within none = elim (cases_Bool (has_end_on_line (get_or es i d))) [
  | inl some ↦ let bad : true ≡ false = sym (list_any_at has_end_on_line es i d within some) ∙ none in absurd cc
  | inr not ↦ not
]

off_lines : (stubs : Bool) (e : Edge) → (stubs ≡ true → has_end_on_line e ≡ false)
    → ((stubs && (is_on_line e.ax || is_on_line e.bx)) ≡ false) × ((stubs && (is_on_line e.ay || is_on_line e.by)) ≡ false)
off_lines false e off = (refl, refl)
off_lines true e off = none_of_four (is_on_line e.ax) (is_on_line e.ay) (is_on_line e.bx) (is_on_line e.by) (off refl)

no_rows : (rules : BoxedRules) (es : List Edge) (ends : List ℕ) → AreEnds (length es) ends
    → NoneFreeBothWays (is_black_seen over.Rows es) es
    → (rules.rules.stubs ≡ true → list_any has_end_on_line es ≡ false)
    → (c j : ℤ) → is_added_by_rows rules (contours_at es ends) c j ≡ false
no_rows rules es ends fit none off c j =
    let black = is_black_seen over.Rows es in
    let free = nothing_free rules.rules.stubs black es (rows_crossed es) none (λ i d within.
    (off_lines rules.rules.stubs (get_or es i d) (λ stubs. not_one es i d within (off stubs))).1) in
    ap (λ all. row_adds rules (contours_at es ends) (λ c j. is_black all (centre c) (centre j)) c j) (edges_at es ends fit)
    ∙ nothing_added rules.rules (columns_in rules.extents) black es ends fit free c j

-- a gap that is free where more is black is free
freed : (a b more_a more_b : Bool) → (not (a || more_a) && not (b || more_b)) ≡ true → (not a && not b) ≡ true
freed true b more_a more_b is = absurd cc
freed false true true more_b is = absurd cc
freed false true false more_b is = absurd cc
freed false false more_a more_b is = refl

-- and a gap that is not free is not free where more is black
not_freed : (a b more_a more_b : Bool) → (not a && not b) ≡ false → (not (a || more_a) && not (b || more_b)) ≡ false
not_freed true b more_a more_b is = refl
not_freed false true true more_b is = refl
not_freed false true false more_b is = refl
not_freed false false more_a more_b is = absurd cc

no_columns : (rules : BoxedRules) (es : List Edge) (ends : List ℕ) → AreEnds (length es) ends
    → All IsClosed (contours_at es ends) → NoneFreeBothWays (is_black_seen over.Columns es) (map turned_round es)
    → (rules.rules.stubs ≡ true → list_any has_end_on_line es ≡ false)
    → (c j : ℤ) → is_added_by_columns rules (contours_at es ends) c j ≡ false
no_columns rules es ends fit closed none off c j =
    let contours = contours_at es ends in
    let turned = map turned_round es in
    let fit_turned = ends_turned es ends fit in
    let alike : contours_at turned ends ≡ outline_turned contours = turned_at es ends in
    let all : edges_of (outline_turned contours) ≡ turned = ap edges_of (sym alike) ∙ edges_at turned ends fit_turned in
    let black = λ (j : ℤ) (c : ℤ). is_inked contours c j || is_added_by_rows rules contours c j in
    let balanced : IsBalanced black turned = λ g l free.
    let inked : is_free (λ j c. is_inked contours c j) g l ≡ true =
    freed (is_inked contours l g) (is_inked contours l (g +ℤ pos 1)) (is_added_by_rows rules contours l g)
    (is_added_by_rows rules contours l (g +ℤ pos 1)) free in
    ap (λ es. crosses_gap true es l g) (sym all) ∙ columns_crossed contours l g closed inked
    ∙ ap (λ es. crosses_gap false es l g) all in
    let off_turned : All (λ e. (rules.rules.stubs && (is_on_line e.ay || is_on_line e.by)) ≡ false) turned =
    All-map (λ e. (rules.rules.stubs && (is_on_line e.ay || is_on_line e.by)) ≡ false) turned_round es (λ i d within.
    (off_lines rules.rules.stubs (get_or es i d) (λ stubs. not_one es i d within (off stubs))).0) in
    let inked : (j c : ℤ) → is_black_seen over.Columns es j c ≡ is_inked contours c j =
    λ j c. ap (λ es. is_black es (centre c) (centre j)) (sym (edges_at es ends fit)) in
    let none_more : NoneFreeBothWays black turned = λ g l two.
    not_freed (is_inked contours g l) (is_inked contours g (l +ℤ pos 1)) (is_added_by_rows rules contours g l)
    (is_added_by_rows rules contours g (l +ℤ pos 1))
    (ap₂ (λ a b. not a && not b) (sym (inked l g)) (sym (inked (l +ℤ pos 1) g)) ∙ none g l two) in
    let free = nothing_free rules.rules.stubs black turned balanced none_more off_turned in
    ap (λ cs. row_adds (rules_turned rules) cs black j c) (sym alike) ∙ nothing_added rules.rules (rows_in rules.extents) black turned ends fit_turned free j c

-- where no contour has the box of a dot, there is none
not_boxed : (box : Option Extents) (asking : Bool) (c j : ℤ) → is_boxed_as_dot box ≡ false → is_dot_in box asking c j ≡ false
not_boxed None asking c j none = refl
not_boxed (Some b) asking c j none = rw none refl

no_dot : (stubs : Bool) (es : List Edge) (c j : ℤ) → has_dot_box es ≡ false → is_dot stubs es c j ≡ false
unfolding is_dot
no_dot stubs es c j none = not_boxed (ends_box es) (asks stubs es) c j none

neither_of : (a b : Bool) → (a || b) ≡ false → (a ≡ false) × (b ≡ false)
neither_of true b is = absurd cc
neither_of false b is = (refl, is)

no_dots : (stubs : Bool) (contours : List (List Edge)) (c j : ℤ) → list_any has_dot_box contours ≡ false
    → has_dot stubs contours c j ≡ false
no_dots stubs [] c j none = refl
no_dots stubs (es ∷ contours) c j none =
    let both = neither_of (has_dot_box es) (list_any has_dot_box contours) none in
    ap₂ (λ a b. a || b) (no_dot stubs es c j both.0) (no_dots stubs contours c j both.1)

not_dotted : (dots white dot : Bool) → (dots ≡ true → dot ≡ false) → (dots && (white && dot)) ≡ false
not_dotted true true dot none = none refl
not_dotted true false dot none = refl
not_dotted false white dot none = refl

pub no_dropout : (rules : BoxedRules) (es : List Edge) (ends : List ℕ) → AreEnds (length es) ends
    → All IsClosed (contours_at es ends) → NoneFreeBothWays (is_black_seen over.Rows es) es
    → NoneFreeBothWays (is_black_seen over.Columns es) (map turned_round es)
    → (rules.rules.stubs ≡ true → list_any has_end_on_line es ≡ false)
    → (rules.rules.dots ≡ true → list_any has_dot_box (contours_at es ends) ≡ false)
    → (c j : ℤ) → is_dropout rules (contours_at es ends) c j ≡ false
no_dropout rules es ends fit closed rows columns off boxless c j =
    let by_rows = no_rows rules es ends fit rows off in
    let by_columns = no_columns rules es ends fit closed columns off in
    let contours = contours_at es ends in
    ap₂ (λ a b. a || b) (ap₂ (λ a b. a || b) (by_rows c j) (by_columns c j))
    (not_dotted rules.rules.dots (not (is_inked contours c j)) (has_dot rules.rules.stubs contours c j)
    (λ dots. no_dots rules.rules.stubs contours c j (boxless dots)))

-- nor are there any where no edge makes a mark in a free gap, and no contour has the box of a dot

pub no_dropout_marked : (rules : BoxedRules) (es : List Edge) (ends : List ℕ) (black : ℤ → ℤ → Bool) → AreEnds (length es) ends
    → ((c j : ℤ) → black c j ≡ is_black es (centre c) (centre j))
    → list_any (is_in_free_gap rules.rules.stubs black) es ≡ false
    → list_any (is_in_free_gap rules.rules.stubs (λ p j. black j p)) (map turned_round es) ≡ false
    → (rules.rules.dots ≡ true → list_any has_dot_box (contours_at es ends) ≡ false)
    → (c j : ℤ) → is_dropout rules (contours_at es ends) c j ≡ false
no_dropout_marked rules es ends black fit alike free free_turned boxless c j =
    let contours = contours_at es ends in
    let turned = map turned_round es in
    let is : (c j : ℤ) → black c j ≡ is_inked contours c j = λ c j. alike c j
    ∙ ap (λ es. is_black es (centre c) (centre j)) (sym (edges_at es ends fit)) in
    let rows_free : list_any (is_in_free_gap rules.rules.stubs (is_inked contours)) es ≡ false =
    still_none rules.rules.stubs black (is_inked contours) es (λ c j there. sym (is c j) ∙ there) free in
    let by_rows : (c j : ℤ) → is_added_by_rows rules contours c j ≡ false = λ c j.
    nothing_added rules.rules (columns_in rules.extents) (is_inked contours) es ends fit rows_free c j in
    let more = λ (j : ℤ) (c : ℤ). is_inked contours c j || is_added_by_rows rules contours c j in
    let columns_free : list_any (is_in_free_gap rules.rules.stubs more) turned ≡ false =
    still_none rules.rules.stubs (λ p j. black j p) more turned (λ p j there. rw (sym (is j p) ∙ there) refl) free_turned in
    let by_columns : is_added_by_columns rules contours c j ≡ false =
    ap (λ cs. row_adds (rules_turned rules) cs more j c) (sym (turned_at es ends))
    ∙ nothing_added rules.rules (rows_in rules.extents) more turned ends (ends_turned es ends fit) columns_free j c in
    ap₂ (λ a b. a || b) (ap₂ (λ a b. a || b) (by_rows c j) by_columns)
    (not_dotted rules.rules.dots (not (is_inked contours c j)) (has_dot rules.rules.stubs contours c j)
    (λ dots. no_dots rules.rules.stubs contours c j (boxless dots)))
