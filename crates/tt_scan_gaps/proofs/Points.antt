-- The side of an edge on which a point lies, by two products; and the winding of edges round a point, one edge more at
-- a time.
use Rattle.std.proofs.Common.{◌≡◌, refl, ℕ, zero, suc, ◌+◌, ◌<◌, List, [], ◌∷◌, get_or, length, take, arith}
use Rattle.std.specs.Prelude.{ℤ, pos, ◌+ℤ◌, ◌-ℤ◌, ◌*ℤ◌, int_lt}
use Rattle.std.proofs.lemmas.Int.{ints}
use Rattle.tt_scan_edges.specs.Winding.{turned, winding}
use Rattle.tt_scan_edges.specs.declared.edge.Edge.{Edge}
use Rattle.tt_scan_gaps.specs.BothWays.{turn_by}

below_zero : (p q : ℤ) → int_lt (p -ℤ q) (pos 0) ≡ int_lt p q
below_zero p q = grind (arith, ints)

above_zero : (p q : ℤ) → int_lt (pos 0) (p -ℤ q) ≡ int_lt q p
above_zero p q = grind (arith, ints)

pub turns_by : (e : Edge) (x y : ℤ)
    → turn_by e.ay e.by y ((e.bx -ℤ e.ax) *ℤ (y -ℤ e.ay)) ((e.by -ℤ e.ay) *ℤ (x -ℤ e.ax)) ≡ turned e x y
turns_by e x y =
    let p = (e.bx -ℤ e.ax) *ℤ (y -ℤ e.ay) in
    let q = (e.by -ℤ e.ay) *ℤ (x -ℤ e.ax) in
    rw (below_zero p q, above_zero p q) refl

-- the edges so far, and one more

pub winding_more : (es : List Edge) (i : ℕ) (d : Edge) (x y : ℤ) → i < length es
    → winding (take (i + 1) es) x y ≡ winding (take i es) x y +ℤ turned (get_or es i d) x y
winding_more [] i d x y below = absurd (omega arith)
winding_more (e ∷ es) zero d x y below = omega (arith, ints)
winding_more (e ∷ es) (suc i) d x y below =
    let next : suc i + 1 ≡ suc (i + 1) = omega arith in
    let more = winding_more es i d x y (omega arith) in
    rw next (omega (arith, ints))
