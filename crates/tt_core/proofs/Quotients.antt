-- How large a rounded quotient is in magnitude, by its numerator and its denominator.
use Rattle.std.proofs.Common.{ℕ, ◌+◌, ◌*◌, ◌/◌, ◌<◌, ◌≤◌, ℤ, pos, negsuc, neg_ℤ, ◌+ℤ◌, ◌*ℤ◌, ◌≤ℤ◌, ◌<ℤ◌, unsigned_abs, arith}
use Rattle.std.specs.Int.{int_div_euclid}
use Rattle.std.proofs.lemmas.Int.{ints}
use Rattle.tt_core.specs.Numbers.{nearest_quotient}

below_multiple : (a b m : ℕ) → a < b * m → a / b < m
below_multiple a b m h = grind arith

-- for a whole number that is at least -b m and below b (m + 1), the quotient by b is at most m in magnitude
quotient_within : (a : ℤ) (b m : ℕ) → a <ℤ pos (b * (m + 1)) → neg_ℤ (pos (b * m)) ≤ℤ a
    → unsigned_abs (int_div_euclid a (pos b)) ≤ m
quotient_within (pos a) b m high low =
    let q : a / b < m + 1 = below_multiple a b (m + 1) (omega (arith, ints)) in omega arith
quotient_within (negsuc a) b m high low =
    let q : a / b < m = below_multiple a b m (omega (arith, ints)) in omega arith

-- a number times one or more is no smaller
pub times_one_or_more : (d m : ℕ) → 0 < d → m ≤ d * m
times_one_or_more d m h = grind arith

pub nearest_within : (n d : ℤ) → pos 0 <ℤ d → unsigned_abs (nearest_quotient n d) ≤ unsigned_abs n
nearest_within n (pos d) h =
    let more = times_one_or_more d (unsigned_abs n) (omega (arith, ints)) in
    quotient_within (pos 2 *ℤ n +ℤ pos d) (2 * d) (unsigned_abs n) (omega (arith, ints)) (omega (arith, ints))
nearest_within n (negsuc d) h = absurd (omega (arith, ints))

-- in magnitude, a quotient is at most `most` if the numerator is at most `most` times the denominator
pub nearest_at_most : (n d : ℤ) (most : ℕ) → pos 0 <ℤ d → unsigned_abs n ≤ unsigned_abs d * most
    → unsigned_abs (nearest_quotient n d) ≤ most
nearest_at_most n (pos d) most h within =
    quotient_within (pos 2 *ℤ n +ℤ pos d) (2 * d) most (omega (arith, ints, within)) (omega (arith, ints, within))
nearest_at_most n (negsuc d) most h within = absurd (omega (arith, ints))
