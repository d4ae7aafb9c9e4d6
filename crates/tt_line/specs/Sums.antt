-- The sum of a line's steps, glyph by glyph.
use Rattle.std.specs.Prelude.{ℕ, ℤ, pos, List, ◌∷◌, Option, Some, None}
use Rattle.tt_line.specs.Steps.{step_in_pixels}
use Rattle.tt_metrics.specs.Metrics.{Metrics, kerning_of}

-- the kerning of a glyph with the next one, where there is a next
abbrev pub kerning_with : Metrics → ℕ → Option ℕ → ℤ
kerning_with m g None = pos 0
kerning_with m g (Some h) = kerning_of m g h

-- the step of a glyph before a next glyph, or at the end of a line; nothing where there is no glyph
abbrev pub step_after : Metrics → ℕ → Option ℕ → Option ℕ → ℕ
step_after m ppem None next = 0
step_after m ppem (Some g) next = step_in_pixels m ppem g (kerning_with m g next)

-- a glyph and those after it
abbrev pub with_last : Option ℕ → List ℕ → List ℕ
with_last None gs = gs
with_last (Some g) gs = g ∷ gs
