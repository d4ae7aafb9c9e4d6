use Rattle.std.proofs.Common.{◌≡◌, ◌++◌, drop}
use Rattle.tt_picture.specs.Unfitted.{unfitted_standing}
use Rattle.tt_picture.proofs.report.report_on.Given as goal

-- the list so far, and then the remaining glyphs', is the whole list
abbrev pub invariant-loop-glyph : goal.invariant-loop-glyph
invariant-loop-glyph l = l.unfitted.items ++ unfitted_standing (drop l.glyph-index l.glyphs) ≡ unfitted_standing l.glyphs
