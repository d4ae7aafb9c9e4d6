-- A bound of a quotient that is rounded up.
use Rattle.std.proofs.Common.{ℕ, ◌+◌, ◌*◌, ◌/◌, ◌^◌, ◌<◌, ◌≤◌, ℤ, pos, negsuc, neg_ℤ, ◌≤ℤ◌, ◌<ℤ◌, unsigned_abs, arith}
use Rattle.std.specs.Int.{int_div_euclid}
use Rattle.std.proofs.lemmas.Int.{ints}
use Rattle.tt_core.specs.Limits.{size_limit}
use Rattle.tt_metrics.specs.Head.{smallest_em}
use Rattle.tt_line.specs.Layout.{ceiling_quotient}

below_multiple : (a b m : ℕ) → a < b * m → a / b < m
below_multiple a b m h = grind arith

-- for a whole number that is at least -b m and below b (m + 1), the quotient by b is at most m in magnitude
quotient_within : (a : ℤ) (b m : ℕ) → a <ℤ pos (b * (m + 1)) → neg_ℤ (pos (b * m)) ≤ℤ a → unsigned_abs (int_div_euclid a (pos b)) ≤ m
quotient_within (pos a) b m high low =
    let q : a / b < m + 1 = below_multiple a b (m + 1) (omega (arith, ints)) in omega arith
quotient_within (negsuc a) b m high low =
    let q : a / b < m = below_multiple a b m (omega (arith, ints)) in omega arith

-- a bound for an ascent or descent of 16 bits, at any size and em within the limits
pub ceiling_within : (n d : ℤ) → unsigned_abs n ≤ size_limit * 2 ^ 15 → pos smallest_em ≤ℤ d → unsigned_abs (ceiling_quotient n d) ≤ 614400
ceiling_within n (pos d) small large =
    let inner = quotient_within (neg_ℤ n) d 614400 (omega (arith, ints)) (omega (arith, ints)) in
    omega (arith, ints, inner)
ceiling_within n (negsuc d) small large = absurd (omega (arith, ints))
