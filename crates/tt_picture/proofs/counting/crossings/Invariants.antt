use Rattle.std.proofs.Common.{◌≡◌, ◌-◌, ◌^◌, ℕ, min, drop, List}
use Rattle.tt_core.specs.Outcomes.{each, after_each}
use Rattle.tt_fit.specs.Fitting.{Fitter}
use Rattle.tt_picture.specs.Glyphs.{AreDrawn}
use Rattle.tt_picture.specs.Pixels.{Shape}
use Rattle.tt_picture.specs.Shapes.{crossings_in, glyph_shape}
use Rattle.tt_picture.proofs.counting.crossings.Given as goal

-- the crossings of the shapes so far
abbrev pub invariant-loop-placed : goal.invariant-loop-placed
invariant-loop-placed l = (maker : ℕ → Fitter) → AreDrawn maker l.glyphs.made.items
    → (done : List Shape) × (after_each (glyph_shape maker) (drop l.placed-index l.line) done ≡ each (glyph_shape maker) l.line)
    × (l.all ≡ min (crossings_in done) (2 ^ 64 - 1))
