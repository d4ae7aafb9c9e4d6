use Rattle.std.proofs.Common.{◌≡◌, ◌++◌, flat_map}
use Rattle.std.specs.List.{range_with_len}
use Rattle.tt_program_faces.specs.Variations.{numbered_axis}
use Rattle.tt_program_faces.proofs.variations.push_axes.Given as goal

-- the lines so far
abbrev pub invariant-loop-i : goal.invariant-loop-i
invariant-loop-i l = l.lines.items ≡ l.initial.lines.items ++ flat_map (numbered_axis l.face.directory l.fvar) (range_with_len 0 l.i)
