use Rattle.std.proofs.Common.{◌≡◌, true, false, SFits, w32, arith}
use Rattle.std.proofs.lemmas.Int.{ints, to_z-of_z}
use Rattle.tt_scan_gaps.specs.BothWays.{is_black_seen}
use Rattle.tt_scan_gaps.specs.Crossings.{is_rising, lines_crossed}
use Rattle.tt_scan_gaps.proofs.Ways.{one_falls, one_rises}
use Rattle.tt_scan_gaps.proofs.both_ways.mark_met.Goals as goal

pub returns-then-seen-clause-told : goal.returns-then-seen-clause-told
returns-then-seen-clause-told c = λ none es told.
    let e = c.args.seen in
    let black = is_black_seen c.args.pass.now.over c.args.pass.now.edges.now in
    let ay : SFits w32 e.ay = omega (arith, ints, c.requires.fits.ay) in
    let by : SFits w32 e.by = omega (arith, ints, c.requires.fits.by) in
    let rises : is_rising e ≡ true = simp to_z-of_z at c.if-seen.true in
    let one : lines_crossed e ≡ 1 = c.is_short.ensures c.if-not-is_short.false in
    let here = c.mark_crossing.ensures in
    rw (← c.requires.seen) (one_rises black es e c.args.rising.now c.mark_crossing.new.table c.args.falling.now rises
    here.kept (λ k less. let first : k ≡ 0 = omega (arith, one, less) in rw first here.marked)
    (λ k less has. let first : k ≡ 0 = omega (arith, one, less) in rw first (here.taken none (rw first at has))) told)

pub returns-else-seen-clause-told : goal.returns-else-seen-clause-told
returns-else-seen-clause-told c = λ none es told.
    let e = c.args.seen in
    let black = is_black_seen c.args.pass.now.over c.args.pass.now.edges.now in
    let ay : SFits w32 e.ay = omega (arith, ints, c.requires.fits.ay) in
    let by : SFits w32 e.by = omega (arith, ints, c.requires.fits.by) in
    let falls : is_rising e ≡ false = simp to_z-of_z at c.if-seen.false in
    let one : lines_crossed e ≡ 1 = c.is_short.ensures c.if-not-is_short.false in
    let here = c.mark_crossing-else-seen.ensures in
    rw (← c.requires.seen) (one_falls black es e c.args.rising.now c.args.falling.now c.mark_crossing-else-seen.new.table
    falls here.kept (λ k less. let first : k ≡ 0 = omega (arith, one, less) in rw first here.marked)
    (λ k less has. let first : k ≡ 0 = omega (arith, one, less) in rw first (here.taken none (rw first at has))) told)
