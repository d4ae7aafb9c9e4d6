use Rattle.std.proofs.Common.{◌≡◌, ℕ, drop, map, Option}
use Rattle.std.specs.Prelude.{All}
use Rattle.tt_label.specs.Label.{label_ink, line_box}
use Rattle.tt_label.specs.Views.{placements_of}
use Rattle.tt_picture.specs.Glyphs.{numbers_of}
use Rattle.tt_picture.specs.Ink.{all_joined}
use Rattle.tt_bitmap.specs.declared.ink.LeastBox.{LeastBox}
use Rattle.tt_label.proofs.growing.label_ink.Given as goal

-- the box so far, and then those of the lines that are left, is the box of all lines
abbrev pub invariant-loop-laid : goal.invariant-loop-laid
invariant-loop-laid l = (ink : ℕ → Option LeastBox) (margin : ℕ)
    → l.inked.inks.items ≡ map ink (numbers_of l.inked.glyphs.made.items) → All (λ laid. laid.margin ≡ margin) l.lines
    → all_joined l.all (map (line_box ink margin) (placements_of (drop l.laid-index l.lines))) ≡ label_ink ink margin (placements_of l.lines)
