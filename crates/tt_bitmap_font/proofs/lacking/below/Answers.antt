use Rattle.std.proofs.Common.{arith}
use Rattle.tt_bitmap_font.proofs.Listing.{below_ends, below_goes_on, below_none}
use Rattle.tt_bitmap_font.proofs.lacking.below.Goals as goal

pub loop-i-preserved : goal.loop-i-preserved
loop-i-preserved c =
    let other = rw c.is_reached.ensures at c.if-is_reached.false in
    let next = below_goes_on c.args.c c.args.listed.now c.loop-i.i c.loop-i-test.true other in
    omega (arith, next, c.loop-i.invariant)

pub returns-then-is_reached-clause-exact : goal.returns-then-is_reached-clause-exact
returns-then-is_reached-clause-exact c =
    let here = rw c.is_reached.ensures at c.if-is_reached.true in
    let none = below_ends c.args.c c.args.listed.now c.loop-i.i c.loop-i-test.true here in
    omega (arith, none, c.loop-i.invariant)

pub returns-clause-exact : goal.returns-clause-exact
returns-clause-exact c =
    let none = below_none c.args.c c.args.listed.now c.loop-i.i c.loop-i-test.false in
    omega (arith, none, c.loop-i.invariant, c.loop-i-test.false, c.loop-i.auto.i-end)
