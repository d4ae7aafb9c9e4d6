use Rattle.std.proofs.Common.{◌≡◌, ◌*◌, ◌^◌, ◌≤◌, take}
use Rattle.std.specs.List.{sum_by}
use Rattle.tt_label_rows.proofs.rows.width_of.Given as goal

-- the steps so far
abbrev pub invariant-loop-glyph : goal.invariant-loop-glyph
invariant-loop-glyph l = record {
  sum : l.sum ≡ sum_by (λ p. p.1) (take l.glyph-index l.glyphs);
  bound : l.sum ≤ l.glyph-index * 2 ^ 32;
}
