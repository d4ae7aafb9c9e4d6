use Rattle.std.proofs.Common.{◌∙◌, Result, Ok, ap, sym, arith}
use Rattle.std.proofs.lemmas.List.Elements.{All-set}
use Rattle.tt_core.specs.declared.fault.Why.{Why}
use Rattle.tt_state.specs.declared.point.Point.{Point}
use Rattle.tt_points_zones.specs.Zones.{IsPoint}
use Rattle.tt_points_loops.specs.Flipping.{put_on}
use Rattle.tt_points_loops.proofs.Ranges.{none_left, further}
use Rattle.tt_points_loops.proofs.flipping.put_all_on.Goals as goal

pub returns-clause-exact : goal.returns-clause-exact
returns-clause-exact c =
    sym c.loop-i.invariant.same ∙ none_left _ c.loop-i.i c.args.past 0 c.loop-i.points (omega arith)

pub loop-i-preserved : goal.loop-i-preserved
loop-i-preserved c =
    let ok : Point → Result Point Why = λ p. Ok p in
    let came = ap ok (sym c.put_on.ensures.exact) in
    record {
      same = further (λ i p. Ok (put_on c.args.on p)) c.loop-i.i c.args.past c.loop-i.points _ _ _ c.loop-i-test.true
          (omega arith) c.loop-i.invariant.same came;
      valid = All-set IsPoint _ _ _ c.put_on.ensures.valid c.loop-i.invariant.valid;
    }
