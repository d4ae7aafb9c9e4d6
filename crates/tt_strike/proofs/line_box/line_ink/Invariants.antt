use Rattle.std.proofs.Common.{◌≡◌, ℕ, drop, map, Option}
use Rattle.tt_bitmap.specs.declared.ink.LeastBox.{LeastBox}
use Rattle.tt_strike.specs.Measures.{box_in}
use Rattle.tt_picture.specs.Glyphs.{numbers_of}
use Rattle.tt_picture.specs.Ink.{all_joined, ink_at}
use Rattle.tt_strike.proofs.line_box.line_ink.Given as goal

-- the box so far, and then those of the glyphs that are left, is the box of the line
abbrev pub invariant-loop-placed : goal.invariant-loop-placed
invariant-loop-placed l = (ink : ℕ → Option LeastBox) → l.inked.inks.items ≡ map ink (numbers_of l.inked.glyphs.made.items)
    → all_joined l.all (map (λ g. ink_at l.line.frame g.1 (ink g.0)) (drop l.placed-index l.line.glyphs.now))
    ≡ box_in ink l.line.frame l.line.glyphs.now
