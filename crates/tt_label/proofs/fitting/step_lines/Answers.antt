use Rattle.std.proofs.Common.{◌≡◌, ◌∙◌, ℕ, ◌<◌, true, List, [], ◌∷◌, Vec, Global, append-nil, append_assoc, length, map, sym, ap, arith}
use Rattle.std.proofs.lemmas.List.{map_push, nil_from_length}
use Rattle.std.proofs.lemmas.List.Elements.{All-head, All-tail}
use Rattle.std.specs.Prelude.{All}
use Rattle.std.specs.Vec.Iter.{into_iter_items}
use Rattle.tt_label.specs.Fitted.{with_steps}
use Rattle.tt_line.specs.Steps.{stepped}
use Rattle.tt_picture.specs.Distinct.{is_among}
use Rattle.tt_picture.specs.Steps.{step_by}
use Rattle.tt_picture.specs.Fitted.{fitted_numbers}
use Rattle.tt_label.proofs.fitting.step_lines.Goals as goal

abbrev Steps : Type 0
Steps = Vec (ℕ × ℕ) Global

pub loop-line-preserved : goal.loop-line-preserved
loop-line-preserved c =
    let at = c.loop-line in
    let line = c.in-Some.line in
    let left = into_iter_items c.next.new.self in
    let made = c.step_line.result in
    let items : Steps → List (ℕ × ℕ) = λ v. v.items in
    let steps : into_iter_items at.line-iterator ≡ line ∷ left = c.in-Some.ensures.steps.0 in
    let pushed = c.in_ok-push.ensures.items in
    record {
      count = let was = at.invariant.count in
          let gone = c.in-Some.ensures.steps.1 in
          let short = ap length steps in
          omega arith;
      known = All-tail (λ (v : Steps). All (λ (g : ℕ × ℕ). g.0 < length c.args.places.now) v.items) line left (rw steps at at.invariant.known);
      among = All-tail (λ (v : Steps). All (λ (g : ℕ × ℕ). is_among g.0 (fitted_numbers c.args.fitted.now) ≡ true) v.items) line left
          (rw steps at at.invariant.among);
      steps = λ advance are.
          let m = c.args.metrics.now in
          let step = step_by m c.args.ppem advance in
          let whole = rw steps at (at.invariant.steps advance are) in
          let own : made.items ≡ stepped m step (map (λ (g : ℕ × ℕ). g.0) line.items) = c.step_line.ensures advance are in
          rw (pushed, map_push items at.made.items made, own)
          (append_assoc (map items at.made.items) (stepped m step (map (λ (g : ℕ × ℕ). g.0) line.items) ∷ [])
          (with_steps m step (map items left)) ∙ whole);
    }

pub step_line-requires-clause-known : goal.step_line-requires-clause-known
step_line-requires-clause-known c =
    let steps = c.in-Some.ensures.steps.0 in
    All-head (λ (v : Steps). All (λ (g : ℕ × ℕ). g.0 < length c.args.places.now) v.items) c.in-Some.line (into_iter_items c.next.new.self)
    (rw steps at c.loop-line.invariant.known)

pub step_line-requires-clause-among : goal.step_line-requires-clause-among
step_line-requires-clause-among c =
    let steps = c.in-Some.ensures.steps.0 in
    All-head (λ (v : Steps). All (λ (g : ℕ × ℕ). is_among g.0 (fitted_numbers c.args.fitted.now) ≡ true) v.items) c.in-Some.line
    (into_iter_items c.next.new.self) (rw steps at c.loop-line.invariant.among)

pub returns : goal.returns
returns c = λ advance are.
    let at = c.loop-line in
    let none = nil_from_length (into_iter_items at.line-iterator) (sym at.invariant.count ∙ c.in-None.ensures.steps.0) in
    let all = rw none at (at.invariant.steps advance are) in
    sym (append-nil (map (λ (v : Steps). v.items) at.made.items)) ∙ all
