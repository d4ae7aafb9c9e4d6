-- The edges of a tape, one more at a time.
use Rattle.std.proofs.Common.{◌≡◌, ℕ, zero, suc, ◌+◌, ◌<◌, ◌≤◌, Bool, true, false, ◌||◌, List, [], ◌∷◌, length, take, ℤ, ◌+ℤ◌, if◌then◌else◌, refl, arith}
use Rattle.std.proofs.lemmas.Int.{ints}
use Rattle.tt_scan_edges.specs.declared.edge.Edge.{Edge}
use Rattle.tt_scan_edges.specs.Counted.{edge_at}
use Rattle.tt_scan_edges.specs.Winding.{winding, turned, is_between, lies_on, lies_on_one, rows_met}
use Rattle.tt_scan_edges.proofs.Bools.{or_false, or_or}

pub winding_more : (es : List Edge) (i : ℕ) (x y : ℤ) → i < length es → winding (take (i + 1) es) x y ≡ winding (take i es) x y +ℤ turned (edge_at es i) x y
winding_more [] i x y below = absurd (omega arith)
winding_more (e ∷ es) zero x y below = omega (arith, ints)
winding_more (e ∷ es) (suc i) x y below =
    let next : suc i + 1 ≡ suc (i + 1) = omega arith in
    let more = winding_more es i x y (omega arith) in
    rw next (omega (arith, ints))

pub clear_more : (es : List Edge) (i : ℕ) (x y : ℤ) → i < length es → lies_on_one (take (i + 1) es) x y ≡ (lies_on_one (take i es) x y || lies_on (edge_at es i) x y)
clear_more [] i x y below = absurd (omega arith)
clear_more (e ∷ es) zero x y below = or_false (lies_on e x y)
clear_more (e ∷ es) (suc i) x y below =
    let next : suc i + 1 ≡ suc (i + 1) = omega arith in
    let more = clear_more es i x y (omega arith) in
    rw (next, more) (or_or (lies_on e x y) (lies_on_one (take i es) x y) (lies_on (edge_at es i) x y))

or_true : (b : Bool) → (b || true) ≡ true
or_true true = refl
or_true false = refl

-- an edge through the point is one of the edges
pub held : (es : List Edge) (i : ℕ) (x y : ℤ) → i < length es → lies_on (edge_at es i) x y ≡ true → lies_on_one es x y ≡ true
held [] i x y below on = absurd (omega arith)
held (e ∷ es) zero x y below on = rw on refl
held (e ∷ es) (suc i) x y below on = rw (held es i x y (omega arith) on) (or_true (lies_on e x y))

pub rows_more : (es : List Edge) (i : ℕ) (y : ℤ) → i < length es → rows_met (take (i + 1) es) y ≡ rows_met (take i es) y + (if is_between (edge_at es i).ay (edge_at es i).by y then 1 else 0)
rows_more [] i y below = absurd (omega arith)
rows_more (e ∷ es) zero y below = omega arith
rows_more (e ∷ es) (suc i) y below =
    let next : suc i + 1 ≡ suc (i + 1) = omega arith in
    let more = rows_more es i y (omega arith) in
    rw next (omega arith)

one_or_none : (b : Bool) → (if b then 1 else 0) ≤ 1
one_or_none true = omega arith
one_or_none false = omega arith

-- a row meets at most i of the first i edges
pub rows_few : (es : List Edge) (i : ℕ) (y : ℤ) → rows_met (take i es) y ≤ i
rows_few es zero y = omega arith
rows_few [] (suc i) y = omega arith
rows_few (e ∷ es) (suc i) y = let few = rows_few es i y in let one = one_or_none (is_between e.ay e.by y) in omega arith
