-- Edges moved to the right by whole pixels blacken the moved columns.
use Rattle.std.proofs.Common.{◌≡◌, ℕ, List, [], ◌∷◌, refl, arith, ℤ, pos, ◌+ℤ◌, ◌-ℤ◌, ◌*ℤ◌}
use Rattle.std.proofs.lemmas.Int.{ints}
use Rattle.tt_scan_edges.specs.declared.edge.Edge.{Edge}
use Rattle.tt_scan_edges.specs.Winding.{column_x, side, is_between, lies_on, lies_on_one, turned, winding, is_black, moved_edge, moved_edges}

side_moved : (d : ℤ) (e : Edge) (x y : ℤ) → side (moved_edge d e) (x +ℤ d) y ≡ side e x y
side_moved d e x y =
    let run : (e.bx +ℤ d) -ℤ (e.ax +ℤ d) ≡ e.bx -ℤ e.ax = omega (arith, ints) in
    let far : (x +ℤ d) -ℤ (e.ax +ℤ d) ≡ x -ℤ e.ax = omega (arith, ints) in
    rw (run, far) refl

between_moved : (a b z d : ℤ) → is_between (a +ℤ d) (b +ℤ d) (z +ℤ d) ≡ is_between a b z
between_moved a b z d = grind (arith, ints)

on_moved : (d : ℤ) (e : Edge) (x y : ℤ) → lies_on (moved_edge d e) (x +ℤ d) y ≡ lies_on e x y
on_moved d e x y = rw (side_moved d e x y, between_moved e.ax e.bx x d) refl

turned_moved : (d : ℤ) (e : Edge) (x y : ℤ) → turned (moved_edge d e) (x +ℤ d) y ≡ turned e x y
turned_moved d e x y = rw (side_moved d e x y) refl

on_one_moved : (d : ℤ) (es : List Edge) (x y : ℤ) → lies_on_one (moved_edges d es) (x +ℤ d) y ≡ lies_on_one es x y
on_one_moved d [] x y = refl
on_one_moved d (e ∷ es) x y = rw (on_moved d e x y, on_one_moved d es x y) refl

winding_moved : (d : ℤ) (es : List Edge) (x y : ℤ) → winding (moved_edges d es) (x +ℤ d) y ≡ winding es x y
winding_moved d [] x y = refl
winding_moved d (e ∷ es) x y = rw (turned_moved d e x y, winding_moved d es x y) refl

black_moved : (d : ℤ) (es : List Edge) (x y : ℤ) → is_black (moved_edges d es) (x +ℤ d) y ≡ is_black es x y
black_moved d es x y = rw (on_one_moved d es x y, winding_moved d es x y) refl

column_moved : (m : ℕ) (c k : ℤ) → column_x m (c +ℤ k) ≡ column_x m c +ℤ pos 8192 *ℤ k
column_moved m c k = omega (arith, ints)

pub black_in_columns : (k : ℤ) (es : List Edge) (m : ℕ) (c y : ℤ)
    → is_black (moved_edges (pos 8192 *ℤ k) es) (column_x m (c +ℤ k)) y ≡ is_black es (column_x m c) y
black_in_columns k es m c y = rw (column_moved m c k) (black_moved (pos 8192 *ℤ k) es (column_x m c) y)
