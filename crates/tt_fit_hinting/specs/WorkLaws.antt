-- No part of the standard: laws of the work of a glyph's program (profile).
use Rattle.std.specs.Prelude.{ℕ}
use Rattle.tt_exec.specs.RunCost.{IsCost}
use Rattle.tt_fit_hinting.specs.GlyphZone.{GlyphProgram}
use Rattle.tt_fit_hinting.specs.Hinting.{Hinting}
use Rattle.tt_fit_outline.specs.Outline.{Outline}
use Rattle.tt_fit_hinting.specs.Work.{hinted_work}

-- the work of a glyph's program over an outline has one cost, whatever remains
abbrev pub ProgramsHaveCosts : Type 0
ProgramsHaveCosts = (hinting : Hinting) (p : GlyphProgram) (o : Outline) → (cost : ℕ) × IsCost cost (hinted_work hinting p o)
