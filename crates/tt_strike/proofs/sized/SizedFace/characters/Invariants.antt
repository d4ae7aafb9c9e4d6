use Rattle.std.proofs.Common.{◌≡◌, ℕ, ℤ, map, take, Option}
use Rattle.std.specs.Prelude.{All}
use Rattle.tt_bitmap.specs.declared.ink.LeastBox.{LeastBox}
use Rattle.tt_picture.specs.Glyphs.{numbers_of}
use Rattle.tt_strike.specs.Measures.{characters_at, made_step}
use Rattle.tt_strike.proofs.sized.SizedFace.characters.Given as goal

-- the characters so far
abbrev pub invariant-loop-i : goal.invariant-loop-i
invariant-loop-i l = (step : ℕ → ℤ → ℕ) (ink : ℕ → Option LeastBox)
    → All (λ g. (k : ℤ) → made_step l.self.face l.self.ppem l.self.fit g k ≡ step g.number k) l.inked.glyphs.made.items
    → l.inked.inks.items ≡ map ink (numbers_of l.inked.glyphs.made.items)
    → l.measured.items ≡ take l.i (characters_at l.self.face.metrics step l.frame ink l.line)
