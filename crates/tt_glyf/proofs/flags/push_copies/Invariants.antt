use Rattle.std.proofs.Common.{◌≡◌, ◌+◌, ◌++◌, vec_len, vec_capacity}
use Rattle.std.proofs.Math.ListN.{replicate}
use Rattle.tt_glyf.proofs.flags.push_copies.Given as goal

abbrev pub invariant-loop : goal.invariant-loop
invariant-loop l =
    (l.points.items ≡ l.fn.points.items ++ replicate l.counter l.point)
    × (vec_len l.points ≡ vec_len l.fn.points + l.counter) × (vec_capacity l.points ≡ vec_capacity l.fn.points)
