use Rattle.std.proofs.Common.{◌≡◌, ◌∙◌, ◌+◌, ◌<◌, Some, None, drop, get_or, length, refl, arith}
use Rattle.std.proofs.lemmas.List.Sums.{sum_by-drop_more}
use Rattle.tt_fit.specs.Counting.{points_asked}
use Rattle.tt_fit.specs.DeltaCounting.{deltas_asked}
use Rattle.tt_strike.specs.Work.{counts_left, glyph_deltas, points_of_all}
use Rattle.tt_strike.proofs.Counts.{left_after, none_after}
use Rattle.tt_strike.proofs.work.CountsLeft.without_glyphs.Goals as goal

pub loop-glyph-preserved : goal.loop-glyph-preserved
loop-glyph-preserved c =
    let s = c.args.fitter.now in
    let gs = c.args.glyphs.now in
    let i = c.loop-glyph.glyph-index in
    let below : i < length gs = c.loop-glyph-test.true in
    let points = sum_by-drop_more (points_asked s.tables s.levels) gs i 0 below in
    let deltas = sum_by-drop_more (deltas_asked s.instance s.tables s.levels) gs i 0 below in
    let rest = drop (i + 1) gs in
    let after = left_after c.loop-glyph.left c.in-Some.fewer (points_asked s.tables s.levels (get_or gs i 0))
    (deltas_asked s.instance s.tables s.levels (get_or gs i 0)) (points_of_all s rest) (glyph_deltas s rest)
    (rw c.in-Some.is at c.in_ok-fewer.ensures) in
    after ∙ rw (← points, ← deltas) c.loop-glyph.invariant

pub returns-in-None : goal.returns-in-None
returns-in-None c =
    let s = c.args.fitter.now in
    let gs = c.args.glyphs.now in
    let i = c.loop-glyph.glyph-index in
    let below : i < length gs = c.loop-glyph-test.true in
    let points = sum_by-drop_more (points_asked s.tables s.levels) gs i 0 below in
    let deltas = sum_by-drop_more (deltas_asked s.instance s.tables s.levels) gs i 0 below in
    let rest = drop (i + 1) gs in
    let after = none_after c.loop-glyph.left (points_asked s.tables s.levels (get_or gs i 0))
    (deltas_asked s.instance s.tables s.levels (get_or gs i 0)) (points_of_all s rest) (glyph_deltas s rest)
    (rw c.in-None.is at c.in_ok-fewer.ensures) in
    after ∙ rw (← points, ← deltas) c.loop-glyph.invariant
