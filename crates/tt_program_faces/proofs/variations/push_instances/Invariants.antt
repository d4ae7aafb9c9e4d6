use Rattle.std.proofs.Common.{◌≡◌, ◌++◌, flat_map}
use Rattle.std.specs.List.{range_with_len}
use Rattle.tt_program_faces.specs.Variations.{instance_line}
use Rattle.tt_program_faces.proofs.variations.push_instances.Given as goal

-- the lines so far
abbrev pub invariant-loop-k : goal.invariant-loop-k
invariant-loop-k l = l.lines.items ≡ l.initial.lines.items ++ flat_map (instance_line l.face.directory l.fvar) (range_with_len 0 l.k)
