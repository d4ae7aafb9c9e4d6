use Rattle.std.proofs.Common.{◌≡◌, ◌∙◌, ◌∷◌, length, sym, ap, Result, Ok, arith}
use Rattle.std.proofs.lemmas.List.{map_push, nil_from_length}
use Rattle.std.proofs.lemmas.List.Elements.{All-head, All-push, All-tail}
use Rattle.std.proofs.lemmas.Result.{err_from_is_err_and}
use Rattle.std.specs.Vec.Iter.{into_iter_items}
use Rattle.tt_core.specs.declared.fault.JobFault.{JobFault}
use Rattle.tt_label.specs.Label.{grown_lines}
use Rattle.tt_label.specs.Views.{placements_of}
use Rattle.tt_line.specs.Layout.{Placement}
use Rattle.tt_line.specs.Outcome.{placement_of}
use Rattle.tt_strike.specs.declared.laid.Laid.{Laid}
use Rattle.tt_strike.specs.Grown.{grown}
use Rattle.tt_label.proofs.Grown.{all_made, next_made, next_refused}
use Rattle.tt_label.proofs.growing.grown_lines.Goals as goal

pub loop-laid-preserved : goal.loop-laid-preserved
loop-laid-preserved c =
    let at = c.loop-laid in
    let laid = c.in-Some.laid in
    let left = into_iter_items c.next.new.self in
    let larger = c.in_ok-larger.larger in
    let f : Placement → Result Placement JobFault = λ line. grown line c.args.ink in
    let steps : into_iter_items at.laid-iterator ≡ laid ∷ left = c.in-Some.ensures.steps.0 in
    let pushed = c.in-Ok.ensures.items in
    let is : f (placement_of laid.line) ≡ Ok (placement_of larger.line) = c.in_ok-larger.ensures.exact in
    record {
      count = let was = at.invariant.count in
          let gone = c.in-Some.ensures.steps.1 in
          let short = ap length steps in
          omega arith;
      lines = rw (pushed, map_push (λ (l : Laid). placement_of l.line) at.made.items larger)
          (next_made f (placement_of laid.line) (placements_of left) (placements_of at.made.items) (placement_of larger.line) is
          ∙ rw steps at at.invariant.lines);
      left = λ margin all. let rest = rw steps at (at.invariant.left margin all) in
          All-tail (λ (l : Laid). l.margin ≡ margin) laid left rest;
      margin = λ margin all. let rest = rw steps at (at.invariant.left margin all) in
          rw pushed (All-push (λ (l : Laid). l.margin ≡ margin) at.made.items larger (at.invariant.margin margin all)
          (c.in_ok-larger.ensures.margin ∙ All-head (λ (l : Laid). l.margin ≡ margin) laid left rest));
    }

pub returns-in_err-larger-clause-exact : goal.returns-in_err-larger-clause-exact
returns-in_err-larger-clause-exact c =
    let at = c.loop-laid in
    let laid = c.in-Some.laid in
    let left = into_iter_items c.next.new.self in
    let f : Placement → Result Placement JobFault = λ line. grown line c.args.ink in
    let steps : into_iter_items at.laid-iterator ≡ laid ∷ left = c.in-Some.ensures.steps.0 in
    let fails = rw steps at at.invariant.lines in
    let p = err_from_is_err_and c.from_residual-in_err-larger.result c.from_residual-in_err-larger.ensures.1 in
    rw (p.1, p.2) (sym fails ∙ next_refused f (placement_of laid.line) (placements_of left) (placements_of at.made.items)
    c.in_err-larger.field-0.0 c.in_err-larger.ensures.exact)

pub returns-clause-exact : goal.returns-clause-exact
returns-clause-exact c =
    let at = c.loop-laid in
    let f : Placement → Result Placement JobFault = λ line. grown line c.args.ink in
    let none = nil_from_length (into_iter_items at.laid-iterator) (sym at.invariant.count ∙ c.in-None.ensures.steps.0) in
    all_made f (placements_of at.made.items) (grown_lines (placements_of c.args.lines.items) c.args.ink) (rw none at at.invariant.lines)
