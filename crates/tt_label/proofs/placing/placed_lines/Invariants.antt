use Rattle.std.proofs.Common.{◌≡◌, map, take}
use Rattle.tt_label.specs.Views.{laid_parts, placed_parts}
use Rattle.tt_label.proofs.placing.placed_lines.Given as goal

-- the lines so far
abbrev pub invariant-loop-laid : goal.invariant-loop-laid
invariant-loop-laid l = map placed_parts l.made.items ≡ map laid_parts (take l.laid-index l.lines)
