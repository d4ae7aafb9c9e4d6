use Rattle.std.proofs.Common.{◌≡◌, ◌+◌, ◌++◌, drop, map, sum, take}
use Rattle.tt_line.proofs.Pens.{at_pens}
use Rattle.tt_label_rows.proofs.laying.stand.Given as goal

-- the glyphs so far are at their pens, and the others have their steps
abbrev pub invariant-loop-i : goal.invariant-loop-i
invariant-loop-i l = record {
  pen : l.pen ≡ sum (map (λ p. p.1) (take l.i l.fn.glyphs));
  placed : l.glyphs ≡ map (λ g. (g.0, g.1 + l.start)) (at_pens (take l.i l.fn.glyphs)) ++ drop l.i l.fn.glyphs;
}
