use Rattle.std.proofs.Common.{◌<◌, length, arith}
use Rattle.tt_deltas_inference.proofs.Filled.{blank}
use Rattle.tt_deltas_inference.proofs.Runs.{run_ends, run_goes}
use Rattle.tt_deltas_inference.proofs.contour.next_run.Goals as goal

pub returns-then-len-points : goal.returns-then-len-points
returns-then-len-points c =
    run_ends c.args.before c.args.first c.args.points.now c.fill.new.points c.unnamed-len.result c.requires.some
    c.if-len-points.true c.unnamed-len.ensures.none c.fill.ensures c.requires.before

pub returns : goal.returns
returns c =
    let inside : c.unnamed-len.result < length c.args.points.now = omega (arith, c.unnamed-len.ensures.bound, c.if-len-points.false) in
    run_goes c.args.before c.args.first c.args.points.now c.fill-2.new.points c.unnamed-len.result blank inside
    c.unnamed-len.ensures.none (c.unnamed-len.ensures.end blank inside) c.fill-2.ensures
    (c.requires.points c.unnamed-len.result blank inside)
