use Rattle.std.proofs.Common.{◌≡◌, map, take}
use Rattle.tt_label_rows.specs.Units.{all_glyphs}
use Rattle.tt_label_rows.proofs.glyphs.all_glyphs.Given as goal

-- the lines so far
abbrev pub invariant-loop-line : goal.invariant-loop-line
invariant-loop-line l = l.made.items ≡ map (λ g. (g, 0)) (all_glyphs (map (λ v. v.items) (take l.line-index l.lines)))
