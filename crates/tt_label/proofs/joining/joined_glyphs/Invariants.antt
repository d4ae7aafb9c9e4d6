use Rattle.std.proofs.Common.{◌≡◌, take}
use Rattle.std.specs.List.{flat_map}
use Rattle.tt_label.proofs.joining.joined_glyphs.Given as goal

-- the lines so far
abbrev pub invariant-loop-laid : goal.invariant-loop-laid
invariant-loop-laid l = l.all.items ≡ flat_map (λ l. l.line.glyphs.items) (take l.laid-index l.lines)
