use Rattle.std.proofs.Common.{◌≡◌, ◌∙◌, refl, ap, ℕ, ◌+◌, ◌<◌, ◌≤◌, List, [], ◌∷◌, ◌++◌, append-nil, chars, length, map, Vec, Global, Bor, vec_len, arith}
use Rattle.std.proofs.lemmas.Iterator.Consumers.{YieldsList-end}
use Rattle.std.proofs.lemmas.Iterator.Splits.{YieldsList-from_lines}
use Rattle.std.proofs.lemmas.Grind.{flat_map-append}
use Rattle.std.proofs.lemmas.Bool.Decides.{nat_tests}
use Rattle.std.proofs.lemmas.List.{length-append, length-map, length_push, map_push, nil_from_length}
use Rattle.std.proofs.lemmas.List.Elements.{All-nil, All-push}
use Rattle.std.specs.List.{flat_map}
use Rattle.std.specs.Prelude.{All}
use Rattle.std.specs.Str.Iter.{lines_rest}
use Rattle.std.specs.Str.Lines.{lines}
use Rattle.tt_cmap.proofs.UnitLaws.{units-are-few}
use Rattle.tt_cmap.specs.Maps.{glyph_of_unit, has_pairs, units_by}
use Rattle.tt_metrics.specs.Metrics.{glyphs_of}
use Rattle.tt_line.specs.Labels.{label_lines, unmarked}
use Rattle.tt_line.specs.Layout.{text_glyphs}
use Rattle.tt_line.specs.Steps.{linear_line, step_in_pixels}
use Rattle.tt_line.proofs.Stepped.{length-stepped}
use Rattle.std.proofs.lemmas.Str.{chars-nil}
use Rattle.tt_line.proofs.LabelLines.{none_made, some_made}
use Rattle.tt_line.proofs.LabelTexts.{first_counts, unmarked_counts}
use Rattle.tt_line.proofs.lines.label_steps.Goals.{then-is_empty+in_ok-push-2, else-is_empty}
use Rattle.tt_line.proofs.lines.label_steps.Goals as goal

pub loop-line-init : goal.loop-line-init
loop-line-init c =
    let none = c.new-lines.ensures.items in
    let rest : lines_rest c.into_iter-line-iterator.result ≡ c.unmarked.result.now =
    ap lines_rest c.into_iter-line-iterator.ensures.into_iter_gives ∙ c.lines-line-items.ensures.rest in
    let few = unmarked_counts c.args.text.now c.utf8.text in
    let count : length (chars (lines_rest c.into_iter-line-iterator.result)) ≤ length (chars c.args.text.now) = rw (rest, c.unmarked.ensures) few in
    record {
      steps = rw none refl;
      same = refl;
      known = rw none (All-nil (λ (v : Vec (ℕ × ℕ) Global). All (λ (p : ℕ × ℕ). p.0 < glyphs_of c.args.known.now.metrics) v.items));
      utf8 = rw rest c.unmarked.utf8;
      few = rw none (omega (arith, count));
      count = rw none (omega (arith, count));
    }

pub advance_steps-requires : goal.advance_steps-requires
advance_steps-requires c =
    let at = c.loop-line in
    let steps = c.in-Some.ensures.steps in
    let parts = first_counts (lines_rest at.line-iterator) c.in-Some.line.now (lines_rest c.next.new.self) at.invariant.utf8 steps.0.0 steps.0.2 in
    record { text = omega (arith, parts.all, at.invariant.few, c.requires.text) }

pub loop-line-preserved : goal.loop-line-preserved
loop-line-preserved c =
    let at = c.loop-line in
    let so_far = at.invariant in
    let m = c.args.known.now.cmap in
    let line = c.in-Some.line.now in
    let v = c.in_ok-steps.steps in
    let steps = c.in-Some.ensures.steps in
    let parts = first_counts (lines_rest at.line-iterator) line (lines_rest c.next.new.self) so_far.utf8 steps.0.0 steps.0.2 in
    let pushed = c.in_ok-push.ensures.items in
    let F : List ℕ → List (ℕ × ℕ) = λ line. linear_line c.args.known.now.metrics c.args.known.now.ppem (text_glyphs m line) in
    let its : Vec (ℕ × ℕ) Global → List (ℕ × ℕ) = λ v. v.items in
    let one : v.items ≡ F line = rw so_far.same at c.in_ok-steps.ensures.exact in
    let within : All (λ (p : ℕ × ℕ). p.0 < glyphs_of c.args.known.now.metrics) v.items = rw so_far.same at c.in_ok-steps.ensures.known in
    let units = units_by m (chars line) in
    let many : length v.items ≡ length units = ap length one ∙ length-stepped c.args.known.now.metrics (step_in_pixels c.args.known.now.metrics c.args.known.now.ppem) (text_glyphs m line) ∙ length-map units (glyph_of_unit m) in
    let few = units-are-few (has_pairs m) (chars line) in
    let long : length (flat_map its (at.lines.items ++ v ∷ [])) ≡ length (flat_map its at.lines.items) + length v.items =
    ap length (flat_map-append its at.lines.items (v ∷ [])) ∙ length-append (flat_map its at.lines.items) (v.items ++ [])
    ∙ ap (λ (xs : List (ℕ × ℕ)). length (flat_map its at.lines.items) + length xs) (append-nil v.items) in
    record {
      steps = rw (pushed, map_push its at.lines.items v, map_push (λ (x : Bor (List ℕ)). x.now) at.yielded c.in-Some.line, map_push F (map (λ (x : Bor (List ℕ)). x.now) at.yielded) line, one, so_far.steps) refl;
      same = c.advance_steps.ensures.same ∙ so_far.same;
      known = rw pushed (All-push (λ (v : Vec (ℕ × ℕ) Global). All (λ (p : ℕ × ℕ). p.0 < glyphs_of c.args.known.now.metrics) v.items) at.lines.items v so_far.known within);
      utf8 = parts.text;
      few = rw (pushed, long) (omega (arith, parts.all, so_far.few, many, few));
      count = rw (pushed, length_push at.lines.items v) (omega (arith, parts.fewer, so_far.count));
    }

pub returns-clause-exact : goal.returns-clause-exact
unfolding label_lines
returns-clause-exact c =
    let at = c.loop-line in
    let m = c.args.known.now.cmap in
    let F : List ℕ → List (ℕ × ℕ) = λ line. linear_line c.args.known.now.metrics c.args.known.now.ppem (text_glyphs m line) in
    let its : Vec (ℕ × ℕ) Global → List (ℕ × ℕ) = λ v. v.items in
    let text = unmarked c.args.text.now in
    let rest : lines_rest c.into_iter-line-iterator.result ≡ text =
    ap lines_rest c.into_iter-line-iterator.ensures.into_iter_gives ∙ c.lines-line-items.ensures.rest ∙ c.unmarked.ensures in
    let all : map (λ (x : Bor (List ℕ)). x.now) at.yielded ≡ lines text =
    (YieldsList-end (YieldsList-from_lines text rest) at.yielded _ at.yielded_by _ _ c.in-None.is c.next.ensures.steps).0 in
    let made : map its at.lines.items ≡ map F (lines text) = rw all at at.invariant.steps in
    elim c.if-is_empty.branch [
      | then-is_empty+in_ok-push-2 w ↦
          let none : vec_len at.lines ≡ 0 = grind (arith, nat_tests, w.if-is_empty.ensures) in
          let empty : length (map its at.lines.items) ≡ 0 = omega (arith, none, at.lines.ok.0, length-map at.lines.items its) in
          let nothing : at.lines.items ≡ [] = nil_from_length at.lines.items (omega (arith, none, at.lines.ok.0)) in
          let blank : F [] ≡ [] = rw chars-nil refl in
          rw (w.lines-is, w.in_ok-push-2.ensures.items, nothing, w.new.ensures.items) (none_made F (lines text) (map its at.lines.items) made empty blank)
      | else-is_empty w ↦
          let some : 0 < vec_len at.lines = grind (arith, nat_tests, w.if-is_empty.ensures) in
          let many : 0 < length (map its at.lines.items) = omega (arith, some, at.lines.ok.0, length-map at.lines.items its) in
          rw w.lines-is (some_made F (lines text) (map its at.lines.items) made many)
    ]
