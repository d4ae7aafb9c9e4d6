-- No part of the standard: the glyphs of a label's lines, and their steps.
use Rattle.std.specs.Prelude.{ℕ, ℤ, List, map}
use Rattle.std.specs.List.{flat_map}
use Rattle.tt_line.specs.Steps.{stepped}
use Rattle.tt_metrics.specs.Metrics.{Metrics}

-- the glyphs of some lines, whose glyphs stand beside numbers
abbrev pub glyphs_in : List (List (ℕ × ℕ)) → List ℕ
glyphs_in lines = map (λ g. g.0) (flat_map (λ line. line) lines)

-- the lines with the step of each glyph beside it
abbrev pub with_steps : Metrics → (ℕ → ℤ → ℕ) → List (List (ℕ × ℕ)) → List (List (ℕ × ℕ))
with_steps m step lines = map (λ line. stepped m step (map (λ g. g.0) line)) lines
