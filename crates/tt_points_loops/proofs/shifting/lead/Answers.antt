use Rattle.std.proofs.Common.{◌∙◌, sym, arith}
use Rattle.std.proofs.lemmas.List.Elements.{All-set}
use Rattle.std.proofs.lemmas.Result.{err_from_is_err_and}
use Rattle.tt_points_zones.specs.Zones.{IsPoint}
use Rattle.tt_points_loops.specs.Total.{there_of, followed_total}
use Rattle.tt_points_loops.proofs.Ranges.{none_left, further, refused}
use Rattle.tt_points_loops.proofs.shifting.lead.Goals as goal

pub returns-clause-exact : goal.returns-clause-exact
returns-clause-exact c =
    sym c.loop-i.invariant.same ∙ none_left _ c.loop-i.i c.args.range.past 0 c.loop-i.points (omega arith)

pub returns-in_err-points-clause-exact : goal.returns-in_err-points-clause-exact
returns-in_err-points-clause-exact c =
    let p = err_from_is_err_and c.from_residual.result c.from_residual.ensures.1 in
    let whole = refused _ c.loop-i.i c.args.range.past c.loop-i.points _ _ _ c.loop-i-test.true (omega arith)
    c.loop-i.invariant.same c.in_err-points.ensures.exact in
    rw (p.1, p.2) whole

pub returns-in_err-points-clause-other : goal.returns-in_err-points-clause-other
returns-in_err-points-clause-other c =
    let p = err_from_is_err_and c.from_residual.result c.from_residual.ensures.1 in
    let by = c.args.by in
    let g = c.args.state.now in
    let whole = refused _ c.loop-i.i c.args.range.past c.loop-i.points _ _ _ c.loop-i-test.true (omega arith)
    c.loop-i.invariant.same c.in_err-points.ensures.exact in
    let total = followed_total c.args.range.first c.args.range.past by.but by.touch g by.reference c.args.points.now in
    rw (p.1, p.2) (there_of _ _ total whole)

pub loop-i-preserved : goal.loop-i-preserved
loop-i-preserved c =
    record {
      same = further _ c.loop-i.i c.args.range.past c.loop-i.points _ _ _ c.loop-i-test.true
          (omega arith) c.loop-i.invariant.same c.in_ok-points.ensures.exact;
      valid = All-set IsPoint _ _ _ c.in_ok-points.ensures.valid c.loop-i.invariant.valid;
    }
