use Rattle.std.proofs.Common.{◌≡◌, true, int_le, SFits, w64, refl, rules}
use Rattle.std.proofs.lemmas.Int.{to_z-of_z}
use Rattle.tt_scan_edges.proofs.pixel.touches.Goals as goal

pub returns-then-first-c : goal.returns-then-first-c
returns-then-first-c c =
    let column : SFits w64 c.args.c = c.ranges.c in
    let first : SFits w64 c.in-Some.first = search rules in
    let last : SFits w64 c.in-Some.last = search rules in
    let below : int_le c.in-Some.first c.args.c ≡ true = simp to_z-of_z at c.if-first-c.true in
    simp to_z-of_z (rw (c.in-Some.is, below) refl)
