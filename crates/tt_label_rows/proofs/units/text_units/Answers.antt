use Rattle.std.proofs.Common.{◌≡◌, ◌∙◌, refl, ap, ℕ, inl, inr, ◌+◌, ◌-◌, ◌<◌, ◌≤◌, List, [], ◌∷◌, ◌++◌, append-nil, chars, length, map, Vec, Global, Bor, vec_len, arith}
use Rattle.std.proofs.lemmas.Iterator.Consumers.{YieldsList-end}
use Rattle.std.proofs.lemmas.Iterator.Splits.{YieldsList-from_lines}
use Rattle.std.proofs.lemmas.Grind.{flat_map-append}
use Rattle.std.proofs.lemmas.Bool.{cases_eq, cond-false, cond-true, eq-eqb, ne_eqb}
use Rattle.std.proofs.lemmas.Bool.Decides.{nat_tests}
use Rattle.std.proofs.lemmas.List.{length-append, length-map, length_push, map_push, nil_from_length}
use Rattle.std.proofs.lemmas.List.Elements.{All-nil, All-push}
use Rattle.std.proofs.lemmas.List.Sums.{sum_by_push}
use Rattle.std.specs.List.{flat_map}
use Rattle.std.specs.Prelude.{All}
use Rattle.std.specs.Str.Iter.{lines_rest}
use Rattle.std.specs.Str.Lines.{lines}
use Rattle.tt_label_rows.specs.Units.{line_units}
use Rattle.tt_line.specs.Labels.{label_lines, unmarked}
use Rattle.tt_metrics.specs.Metrics.{glyphs_of}
use Rattle.tt_rows.specs.Rows.{one_at_least}
use Rattle.tt_rows.specs.declared.unit.RowUnit.{RowUnit}
use Rattle.std.proofs.lemmas.Str.{chars-nil}
use Rattle.tt_line.proofs.LabelLines.{none_made, some_made}
use Rattle.tt_line.proofs.LabelTexts.{first_counts, unmarked_counts}
use Rattle.tt_label_rows.proofs.units.text_units.Goals.{then-is_empty+in_ok-push-2, else-is_empty}
use Rattle.tt_label_rows.proofs.units.text_units.Goals as goal

-- a line has at least a row, and no more than it has characters otherwise
one_of : (n most : ℕ) → 1 ≤ most → n ≤ most → one_at_least n ≤ most
one_of n most some few = elim (cases_eq n 0) [
  | inl none ↦ let one : one_at_least n ≡ 1 = cond-true _ _ _ (eq-eqb n 0 none) in omega (arith, one, some)
  | inr more ↦ let same : one_at_least n ≡ n = cond-false _ _ _ (ne_eqb n 0 more) in omega (arith, same, few)
]

low_then : (n long rest all : ℕ) → n ≤ long → long + rest ≤ all → 1 + rest ≤ all → one_at_least n + rest ≤ all
low_then n long rest all few whole fewer =
    let most = one_of n (all - rest) (omega (arith, fewer)) (omega (arith, few, whole)) in
    omega (arith, most, fewer)

pub loop-line-init : goal.loop-line-init
loop-line-init c =
    let none = c.new-lines.ensures.items in
    let rest : lines_rest c.into_iter-line-iterator.result ≡ c.unmarked.result.now =
    ap lines_rest c.into_iter-line-iterator.ensures.into_iter_gives ∙ c.lines-line-items.ensures.rest in
    let few = unmarked_counts c.args.text.now c.utf8.text in
    let count : length (chars (lines_rest c.into_iter-line-iterator.result)) ≤ length (chars c.args.text.now) = rw (rest, c.unmarked.ensures) few in
    record {
      units = rw none refl;
      same = refl;
      known = rw none (All-nil (λ (v : Vec RowUnit Global). All (λ (u : RowUnit). u.glyph < glyphs_of c.args.known.now.metrics) v.items));
      utf8 = rw rest c.unmarked.utf8;
      few = rw none (omega (arith, count));
      rows = rw none (omega (arith, count));
    }

pub loop-line-preserved : goal.loop-line-preserved
loop-line-preserved c =
    let at = c.loop-line in
    let so_far = at.invariant in
    let m = c.args.known.now.cmap in
    let line = c.in-Some.line.now in
    let v = c.in_ok-units.units in
    let steps = c.in-Some.ensures.steps in
    let parts = first_counts (lines_rest at.line-iterator) line (lines_rest c.next.new.self) so_far.utf8 steps.0.0 steps.0.2 in
    let pushed = c.in_ok-push.ensures.items in
    let F : List ℕ → List RowUnit = line_units m in
    let its : Vec RowUnit Global → List RowUnit = λ v. v.items in
    let one : v.items ≡ F line = rw so_far.same at c.in_ok-units.ensures.exact in
    let within : All (λ (u : RowUnit). u.glyph < glyphs_of c.args.known.now.metrics) v.items = rw so_far.same at c.in_ok-units.ensures.known in
    let few = c.in_ok-units.ensures.few in
    let long : length (flat_map its (at.lines.items ++ v ∷ [])) ≡ length (flat_map its at.lines.items) + length v.items =
    ap length (flat_map-append its at.lines.items (v ∷ [])) ∙ length-append (flat_map its at.lines.items) (v.items ++ [])
    ∙ ap (λ (xs : List RowUnit). length (flat_map its at.lines.items) + length xs) (append-nil v.items) in
    record {
      units = rw (pushed, map_push its at.lines.items v, map_push (λ (x : Bor (List ℕ)). x.now) at.yielded c.in-Some.line, map_push F (map (λ (x : Bor (List ℕ)). x.now) at.yielded) line, one, so_far.units) refl;
      known = rw pushed (All-push (λ (v : Vec RowUnit Global). All (λ (u : RowUnit). u.glyph < glyphs_of c.args.known.now.metrics) v.items) at.lines.items v so_far.known within);
      same = c.line_units.ensures.same ∙ so_far.same;
      utf8 = parts.text;
      few = rw (pushed, long) (omega (arith, parts.all, so_far.few, few));
      rows = rw (pushed, sum_by_push (λ (v : Vec RowUnit Global). one_at_least (length v.items)) at.lines.items v)
          (let low : one_at_least (length v.items) + length (chars (lines_rest c.next.new.self)) ≤ length (chars (lines_rest at.line-iterator)) =
          low_then (length v.items) (length (chars line)) (length (chars (lines_rest c.next.new.self))) (length (chars (lines_rest at.line-iterator))) few parts.all parts.fewer in
          let so = so_far.rows in omega (arith, low, so));
    }

pub returns-clause-exact : goal.returns-clause-exact
unfolding label_lines
returns-clause-exact c =
    let at = c.loop-line in
    let m = c.args.known.now.cmap in
    let F : List ℕ → List RowUnit = line_units m in
    let its : Vec RowUnit Global → List RowUnit = λ v. v.items in
    let text = unmarked c.args.text.now in
    let rest : lines_rest c.into_iter-line-iterator.result ≡ text =
    ap lines_rest c.into_iter-line-iterator.ensures.into_iter_gives ∙ c.lines-line-items.ensures.rest ∙ c.unmarked.ensures in
    let all : map (λ (x : Bor (List ℕ)). x.now) at.yielded ≡ lines text =
    (YieldsList-end (YieldsList-from_lines text rest) at.yielded _ at.yielded_by _ _ c.in-None.is c.next.ensures.steps).0 in
    let made : map its at.lines.items ≡ map F (lines text) = rw all at at.invariant.units in
    elim c.if-is_empty.branch [
      | then-is_empty+in_ok-push-2 w ↦
          let none : vec_len at.lines ≡ 0 = grind (arith, nat_tests, w.if-is_empty.ensures) in
          let empty : length (map its at.lines.items) ≡ 0 = omega (arith, none, at.lines.ok.0, length-map at.lines.items its) in
          let nothing : at.lines.items ≡ [] = nil_from_length at.lines.items (omega (arith, none, at.lines.ok.0)) in
          let blank : F [] ≡ [] = rw chars-nil refl in
          rw (w.lines-is, w.in_ok-push-2.ensures.items, nothing, w.new.ensures.items) (none_made F (lines text) (map its at.lines.items) made empty blank)
      | else-is_empty w ↦
          let some : 0 < vec_len at.lines = grind (arith, nat_tests, w.if-is_empty.ensures) in
          let many : 0 < length (map its at.lines.items) = omega (arith, some, at.lines.ok.0, length-map at.lines.items its) in
          rw w.lines-is (some_made F (lines text) (map its at.lines.items) made many)
    ]
