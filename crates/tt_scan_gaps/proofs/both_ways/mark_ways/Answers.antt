use Rattle.std.proofs.Common.{◌≡◌, true, false, SFits, w32, arith}
use Rattle.std.proofs.lemmas.Int.{ints, to_z-of_z}
use Rattle.tt_scan_gaps.specs.BothWays.{is_black_seen}
use Rattle.tt_scan_gaps.specs.Crossings.{is_rising}
use Rattle.tt_scan_gaps.proofs.Ways.{one_falls, one_rises}
use Rattle.tt_scan_gaps.proofs.both_ways.mark_ways.Goals as goal

pub returns-then-edge-clause-told : goal.returns-then-edge-clause-told
returns-then-edge-clause-told c = λ none es told.
    let e = c.seen_by-edge.result in
    let ay : SFits w32 e.ay = omega (arith, ints, c.seen_by-edge.ensures.fits.ay) in
    let by : SFits w32 e.by = omega (arith, ints, c.seen_by-edge.ensures.fits.by) in
    let rises : is_rising e ≡ true = simp to_z-of_z at c.if-edge.true in
    let here = c.mark_crossings.ensures in
    rw (← c.seen_by-edge.ensures.exact) (one_rises (is_black_seen c.args.pass.now.over c.args.pass.now.edges.now) es e
    c.args.rising.now c.mark_crossings.new.table c.args.falling.now rises here.kept (here.marked none)
    (here.taken none) told)

pub returns-else-edge-clause-told : goal.returns-else-edge-clause-told
returns-else-edge-clause-told c = λ none es told.
    let e = c.seen_by-edge.result in
    let ay : SFits w32 e.ay = omega (arith, ints, c.seen_by-edge.ensures.fits.ay) in
    let by : SFits w32 e.by = omega (arith, ints, c.seen_by-edge.ensures.fits.by) in
    let falls : is_rising e ≡ false = simp to_z-of_z at c.if-edge.false in
    let here = c.mark_crossings-else-edge.ensures in
    rw (← c.seen_by-edge.ensures.exact) (one_falls (is_black_seen c.args.pass.now.over c.args.pass.now.edges.now) es e
    c.args.rising.now c.args.falling.now c.mark_crossings-else-edge.new.table falls here.kept (here.marked none)
    (here.taken none) told)
