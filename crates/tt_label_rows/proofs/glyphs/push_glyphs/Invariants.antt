use Rattle.std.proofs.Common.{◌≡◌, ◌++◌, map, take}
use Rattle.tt_label_rows.proofs.glyphs.push_glyphs.Given as goal

-- the glyphs so far
abbrev pub invariant-loop-unit : goal.invariant-loop-unit
invariant-loop-unit l = l.made.items ≡ l.fn.made.items ++ map (λ u. (u.glyph, 0)) (take l.unit-index l.units)
