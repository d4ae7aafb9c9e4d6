use Rattle.std.proofs.Common.{◌≡◌, ◌++◌, drop, map, sum, take}
use Rattle.tt_line.specs.Layout.{glyphs_at_pens}
use Rattle.tt_line.proofs.steps.place.Given as goal

-- the glyphs so far are at their pens, and the others have their steps
abbrev pub invariant-loop-i : goal.invariant-loop-i
invariant-loop-i l = record {
  pen : l.pen ≡ sum (map (λ p. p.1) (take l.i l.fn.glyphs));
  placed : l.glyphs ≡ glyphs_at_pens (map (λ p. p.0) (take l.i l.fn.glyphs)) (map (λ p. p.1) (take l.i l.fn.glyphs))
      ++ drop l.i l.fn.glyphs;
}
