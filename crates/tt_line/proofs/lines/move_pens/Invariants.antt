use Rattle.std.proofs.Common.{◌≡◌, ◌+◌, ◌++◌, drop, map, take}
use Rattle.tt_line.proofs.lines.move_pens.Given as goal

-- the pens so far are moved, and the others are unchanged
abbrev pub invariant-loop-i : goal.invariant-loop-i
invariant-loop-i l = l.glyphs ≡ map (λ g. (g.0, g.1 + l.right)) (take l.i l.fn.glyphs) ++ drop l.i l.fn.glyphs
