-- The number of crossings that the rows of a tape need: its count fits.
use Rattle.std.proofs.Common.{◌≡◌, ℕ, ◌+◌, ◌*◌, ◌^◌, ◌≤◌, Bool, true, false, if◌then◌else◌, List, [], ◌∷◌, length, ℤ, arith}
use Rattle.std.proofs.Math.Nat.{mul-le-mul_right}
use Rattle.tt_scan_edges.specs.Winding.{is_between, rows_met}
use Rattle.tt_scan_edges.specs.declared.edge.Edge.{Edge}

one_or_none : (b : Bool) → (if b then 1 else 0) ≤ 1
one_or_none true = omega arith
one_or_none false = omega arith

pub met_few : (es : List Edge) (y : ℤ) → rows_met es y ≤ length es
met_few [] y = omega arith
met_few (e ∷ es) y = omega (arith, one_or_none (is_between e.ay e.by y), met_few es y)

pub one_row_more : (r n old now one new : ℕ) → now ≤ old + r * n → new ≡ now + one → one ≤ n
    → new ≤ old + (r + 1) * n
one_row_more r n old now one new so_far is few = omega (arith, so_far, is, few)

pub all_fit : (h n : ℕ) → h ≤ 4096 → n ≤ 2 ^ 19 → 0 + h * n ≤ 2 ^ 63
all_fit h n rows edges =
    let most : h * n ≤ 4096 * n = mul-le-mul_right n rows in
    omega (arith, most, edges)
