use Rattle.std.proofs.Common.{◌≡◌, ◌++◌, flat_map}
use Rattle.std.specs.List.{range_with_len}
use Rattle.tt_program_faces.specs.FaceLines.{lines_of_face, faces_head}
use Rattle.tt_program_faces.proofs.listing.lines.Given as goal

-- the lines so far
abbrev pub invariant-loop-n : goal.invariant-loop-n
invariant-loop-n l = l.lines.items ≡ faces_head l.fn.count ++ flat_map (lines_of_face l.file) (range_with_len 0 l.n)
