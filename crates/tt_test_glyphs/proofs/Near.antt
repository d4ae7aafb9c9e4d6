-- Points within the limit, moved by no more than it, are points that tt_arc takes.
use Rattle.std.proofs.Common.{◌≤◌, ℤ, pos, Bool, List, All, unsigned_abs, arith}
use Rattle.std.proofs.lemmas.Int.{ints}
use Rattle.tt_fit_outline.specs.Outline.{IsPoint}
use Rattle.tt_arc.specs.Chords.{IsNear}

pub near_of : (dx : ℤ) (ps : List (ℤ × ℤ × Bool)) → unsigned_abs dx ≤ 2097151 → All IsPoint ps
    → All (IsNear dx (pos 0)) ps
near_of dx ps small points k d below =
    let p = points k d below in
    record { x = omega (arith, ints, p.0, small); y = omega (arith, ints, p.1) }
