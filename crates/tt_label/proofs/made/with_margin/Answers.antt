use Rattle.std.proofs.Common.{◌≡◌, ◌∙◌, [], ◌∷◌, append-nil, append_assoc, length, map, refl, sym, ap, arith}
use Rattle.std.proofs.lemmas.List.{map_push, nil_from_length}
use Rattle.std.proofs.lemmas.List.Elements.{All-push}
use Rattle.std.specs.Vec.Iter.{into_iter_items}
use Rattle.tt_label.specs.Views.{placements_of}
use Rattle.tt_line.specs.Outcome.{placement_of}
use Rattle.tt_strike.specs.declared.laid.Laid.{Laid}
use Rattle.tt_label.proofs.made.with_margin.Goals as goal

pub loop-line-preserved : goal.loop-line-preserved
loop-line-preserved c =
    let at = c.loop-line in
    let line = c.in-Some.line in
    let left = into_iter_items c.next.new.self in
    let steps : into_iter_items at.line-iterator ≡ line ∷ left = c.in-Some.ensures.steps.0 in
    let pushed = c.in_ok-push.ensures.items in
    record {
      count = let was = at.invariant.count in
          let gone = c.in-Some.ensures.steps.1 in
          let short = ap length steps in
          omega arith;
      lines = rw (pushed, map_push (λ (l : Laid). placement_of l.line) at.made.items _)
          (append_assoc (placements_of at.made.items) (placement_of line ∷ []) (map placement_of left) ∙ rw steps at at.invariant.lines);
      margin = rw pushed (All-push (λ (laid : Laid). laid.margin ≡ c.args.margin) at.made.items _ at.invariant.margin refl);
    }

pub returns-clause-lines : goal.returns-clause-lines
returns-clause-lines c =
    let at = c.loop-line in
    let none = nil_from_length (into_iter_items at.line-iterator) (sym at.invariant.count ∙ c.in-None.ensures.steps.0) in
    let all = rw none at at.invariant.lines in
    sym (append-nil (placements_of at.made.items)) ∙ all
