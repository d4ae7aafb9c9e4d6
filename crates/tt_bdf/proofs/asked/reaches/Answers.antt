use Rattle.std.proofs.Common.{arith}
use Rattle.tt_bdf.proofs.Reaching.{end_above, no_range}
use Rattle.tt_bdf.proofs.asked.reaches.Goals as goal

pub index-requires : goal.index-requires
index-requires c =
    let rs = c.args.ranges.now in
    let i = c.loop-r.r-index in
    let range = c.requires.codes i no_range c.loop-r-test.true in
    omega (arith, range.order, end_above rs i c.loop-r-test.true, c.requires.within, c.loop-r.invariant.count, c.loop-r.reaches.ok.0)

pub index_mut-requires : goal.index_mut-requires
index_mut-requires c =
    let rs = c.args.ranges.now in
    let i = c.loop-r.r-index in
    let range = c.requires.codes i no_range c.loop-r-test.true in
    omega (arith, range.order, end_above rs i c.loop-r-test.true, c.requires.within, c.loop-r.invariant.count, c.loop-r.reaches.ok.0)
