-- No part of the standard: a glyph cached from line to line.
use Rattle.std.specs.Prelude.{ℕ, ℤ, Option}
use Rattle.tt_bitmap.specs.Bitmaps.{BoxBitmap}
use Rattle.tt_bitmap.specs.declared.ink.LeastBox.{LeastBox}
use Rattle.tt_core.specs.Faults.{Fault}
use Rattle.tt_strike_kept.specs.declared.glyph.KeptCounts.{KeptCounts}

-- its black pixels at pen 0 and their box, the distance of its advance's two ends, its chords, and its crossings at one
-- pen; then what it counts of a line's work, and the fault that makes it unfitted
pub record KeptGlyph : Type 0 where
  pub bitmap : BoxBitmap
  pub ink : Option LeastBox
  pub advance_left : ℤ
  pub chords : ℕ
  pub crossings : ℕ
  pub counts : KeptCounts
  pub unfitted : Option Fault
