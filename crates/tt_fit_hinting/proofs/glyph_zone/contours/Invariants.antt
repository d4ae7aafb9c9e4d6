use Rattle.std.proofs.Common.{◌≡◌, ◌++◌, drop}
use Rattle.tt_fit_hinting.specs.GlyphZone.{contours_from}
use Rattle.tt_fit_hinting.proofs.glyph_zone.contours.Given as goal

abbrev pub invariant-loop-end : goal.invariant-loop-end
invariant-loop-end l = l.contours.items ++ contours_from l.first (drop l.end-index l.ends) ≡ contours_from 0 l.ends
