use Rattle.std.proofs.Common.{◌≡◌, ◌++◌, flat_map}
use Rattle.std.specs.List.{range_with_len}
use Rattle.tt_program_faces.specs.Variations.{next_place}
use Rattle.tt_program_faces.proofs.variations.push_places.Given as goal

-- the lines so far
abbrev pub invariant-loop-i : goal.invariant-loop-i
invariant-loop-i l = l.lines.items ≡ l.initial.lines.items ++ flat_map (next_place l.fvar l.k) (range_with_len 0 l.i)
