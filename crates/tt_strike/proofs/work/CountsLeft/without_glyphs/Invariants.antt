use Rattle.std.proofs.Common.{◌≡◌, drop}
use Rattle.tt_strike.specs.Work.{counts_left, glyph_deltas, points_of_all}
use Rattle.tt_strike.proofs.work.CountsLeft.without_glyphs.Given as goal

-- what is left now, less the counts of the other glyphs, is what is left after all
abbrev pub invariant-loop-glyph : goal.invariant-loop-glyph
invariant-loop-glyph l =
    let gs = drop l.glyph-index l.glyphs in
    counts_left l.left (points_of_all l.fitter gs) (glyph_deltas l.fitter gs)
    ≡ counts_left l.fn.self (points_of_all l.fitter l.glyphs) (glyph_deltas l.fitter l.glyphs)
