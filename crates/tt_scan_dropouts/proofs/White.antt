-- A pass adds only white pixels.
use Rattle.std.proofs.Common.{◌≡◌, refl, Bool, true, false, not, ◌&&◌, ◌||◌, List, inl, inr, arith}
use Rattle.std.proofs.lemmas.Bool.{cases_Bool}
use Rattle.std.specs.Prelude.{ℤ, pos, ◌+ℤ◌, ◌-ℤ◌, None}
use Rattle.std.proofs.lemmas.Int.{ints}
use Rattle.tt_scan_gaps.specs.Gaps.{asked, is_added, is_free}
use Rattle.tt_scan_dropouts.specs.Laws.{AddedByColumnsWasWhite, AddedByRowsWasWhite, DropoutWasWhite}
use Rattle.tt_scan_gaps.specs.Boxes.{columns_in, rows_in}
use Rattle.tt_scan_dropouts.specs.Dropouts.{is_added_by_columns, is_added_by_rows, is_bridged, is_dotted, is_inked, outline_turned}
use Rattle.tt_scan_gaps.specs.Dots.{has_dot}
use Rattle.tt_scan_gaps.specs.Walk.{marks}
use Rattle.tt_scan_edges.specs.declared.edge.Edge.{Edge}
use Rattle.tt_scan_dropouts.specs.declared.boxed.BoxedRules.{BoxedRules}
use Rattle.tt_scan_gaps.specs.declared.mark.Columns.{Columns}
use Rattle.tt_scan_gaps.specs.declared.mark.Mark.{Mark}
use Rattle.tt_scan_gaps.specs.declared.mark.Rules.{Rules}

neither : (b : Bool) → (not b && false) ≡ false
neither true = refl
neither false = refl

left_black : (black : ℤ → ℤ → Bool) (c j : ℤ) → black c j ≡ true → is_free black c j ≡ false
left_black black c j is = rw is refl

right_black : (black : ℤ → ℤ → Bool) (p j : ℤ) → black p j ≡ true → is_free black (p -ℤ pos 1) j ≡ false
right_black black p j is =
    let next : (p -ℤ pos 1) +ℤ pos 1 ≡ p = omega (arith, ints) in
    rw (next, is) (neither (black (p -ℤ pos 1) j))

not_asked : (rules : Rules) (b : Columns) (ms : List Mark) (black : ℤ → ℤ → Bool) (j c : ℤ) → is_free black c j ≡ false
    → asked rules b ms black j c ≡ None
not_asked rules b ms black j c is = rw is refl

where_black : (rules : Rules) (b : Columns) (ms : List Mark) (black : ℤ → ℤ → Bool) (p j : ℤ) → black p j ≡ true
    → is_added rules b ms black p j ≡ false
where_black rules b ms black p j is =
    rw (
      not_asked rules b ms black j p (left_black black p j is),
      not_asked rules b ms black j (p -ℤ pos 1) (right_black black p j is),
    ) refl

by_colour : (rules : Rules) (b : Columns) (ms : List Mark) (black : ℤ → ℤ → Bool) (p j : ℤ) (here : Bool)
    → black p j ≡ here → is_added rules b ms black p j ≡ true → here ≡ false
by_colour rules b ms black p j true is added = let out = where_black rules b ms black p j is in absurd cc
by_colour rules b ms black p j false is added = refl

added_was_white : (rules : Rules) (b : Columns) (ms : List Mark) (black : ℤ → ℤ → Bool) (p j : ℤ)
    → is_added rules b ms black p j ≡ true → black p j ≡ false
added_was_white rules b ms black p j added = by_colour rules b ms black p j (black p j) refl added

neither_of : (a b : Bool) → (a || b) ≡ false → (a ≡ false) × (b ≡ false)
neither_of true b is = absurd cc
neither_of false b is = (refl, is)

second_of : (a b : Bool) → (a || b) ≡ true → a ≡ false → b ≡ true
second_of true b is off = absurd cc
second_of false b is off = is

pub by_rows : AddedByRowsWasWhite
by_rows rules contours c j added =
    added_was_white rules.rules (columns_in rules.extents) (marks rules.rules.stubs contours) (is_inked contours) c j added

pub by_columns : AddedByColumnsWasWhite
by_columns rules contours c j added =
    neither_of (is_inked contours c j) (is_added_by_rows rules contours c j)
    (added_was_white rules.rules (rows_in rules.extents) (marks rules.rules.stubs (outline_turned contours))
    (λ k q. is_inked contours q k || is_added_by_rows rules contours q k) j c added)

bridged : (rules : BoxedRules) (contours : List (List Edge)) (c j : ℤ) → is_bridged rules contours c j ≡ true → is_inked contours c j ≡ false
bridged rules contours c j added = elim (cases_Bool (is_added_by_rows rules contours c j)) [
  | inl first ↦ by_rows rules contours c j first
  | inr not_first ↦ (by_columns rules contours c j
      (second_of (is_added_by_rows rules contours c j) (is_added_by_columns rules contours c j) added not_first)).0
]

was_white : (dots ink dot : Bool) → (dots && (not ink && dot)) ≡ true → ink ≡ false
was_white true true dot is = absurd cc
was_white true false dot is = refl
was_white false ink dot is = absurd cc

pub by_both : DropoutWasWhite
by_both rules contours c j added = elim (cases_Bool (is_bridged rules contours c j)) [
  | inl first ↦ bridged rules contours c j first
  | inr not_first ↦ was_white rules.rules.dots (is_inked contours c j) (has_dot rules.rules.stubs contours c j)
      (second_of (is_bridged rules contours c j) (is_dotted rules contours c j) added not_first)
]
