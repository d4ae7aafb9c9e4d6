use Rattle.std.proofs.Common.{◌≡◌, ◌+◌, ◌≤◌, vec_len, vec_capacity, length, map, All}
use Rattle.tt_glyf.specs.Bytes.{after}
use Rattle.tt_glyf.specs.Flags.{flags_from}
use Rattle.tt_glyf.specs.InPlace.{held, held_flag, HoldsFlag}
use Rattle.tt_glyf.proofs.flags.read_flags.Given as goal

abbrev pub invariant-loop-left : goal.invariant-loop-left
invariant-loop-left l =
    (after (map held_flag l.points.items) (flags_from l.left l.glyph l.next l.left)
    ≡ flags_from l.count l.glyph l.at l.count)
    × (map held (map held_flag l.points.items) ≡ l.points.items) × All HoldsFlag l.points.items
    × (vec_len l.points + l.left ≤ vec_capacity l.points) × (l.next ≤ length l.glyph.bytes)

abbrev pub decreases-loop-left : goal.decreases-loop-left
decreases-loop-left l = l.left
