-- The share of a way that an inferred point has, beside its exact share.
use Rattle.std.proofs.Common.{◌≡◌, ◌∙◌, ℕ, suc, ◌+◌, ◌*◌, ◌/◌, ◌<◌, ◌≤◌, ℤ, pos, negsuc, ◌-ℤ◌, ◌*ℤ◌, ◌<ℤ◌, unsigned_abs, ap, sym, refl, arith}
use Rattle.std.proofs.Math.IntN.{*ℤ_comm}
use Rattle.std.proofs.Math.Nat.{mul-div-le, lt-div-mul-add, mul-le-mul_left}
use Rattle.std.proofs.lemmas.Int.{ints, unsigned_abs-mul}
use Rattle.tt_core.specs.Products.{mul_assoc_z, mul_diff, mul_neg}
use Rattle.tt_core.specs.Scales.{away_quotient}
use Rattle.tt_deltas_inference.specs.Inference.{moved, rate, placed}
use Rattle.tt_deltas_inference.specs.Laws.{SharesAreNear}
use Rattle.tt_deltas_inference.proofs.Choices.{inside}
use Rattle.tt_deltas_inference.proofs.Proportions.{forward, backward, rate_is, proportion_is}

-- a rounded quotient times the divisor, beside the numerator
record IsNear (w r q : ℕ) : Type 0 where
  low : 2 * (r * q) ≤ 2 * w + r
  high : 2 * w ≤ 2 * (r * q) + r

nearest : (w r : ℕ) → 0 < r → IsNear w r ((2 * w + r) / (2 * r))
nearest w r some =
    let q = (2 * w + r) / (2 * r) in
    let below = mul-div-le (2 * w + r) (2 * r) in
    let above = lt-div-mul-add {a = 2 * w + r} {b = 2 * r} (omega arith) in
    record { low = omega arith; high = omega arith }

near_quotient : (w : ℤ) (r : ℕ) → 0 < r → unsigned_abs (pos 2 *ℤ (pos r *ℤ away_quotient w (pos r) -ℤ w)) ≤ r
near_quotient (pos n) r some =
    let near = nearest n r some in
    let low = near.low in
    let high = near.high in
    rw (forward n r) (omega (arith, ints))
near_quotient (negsuc n) r some =
    let q = (2 * suc n + r) / (2 * r) in
    let near = nearest (suc n) r some in
    let low = near.low in
    let high = near.high in
    rw (backward n r, mul_neg (pos r) (pos q)) (omega (arith, ints))

-- a factor before a difference
gathered : (r x k w : ℤ) → pos 2 *ℤ (r *ℤ (x *ℤ k) -ℤ x *ℤ w) ≡ x *ℤ (pos 2 *ℤ (r *ℤ k -ℤ w))
gathered r x k w =
    let one : r *ℤ (x *ℤ k) ≡ x *ℤ (r *ℤ k) =
    sym (mul_assoc_z r x k) ∙ ap (λ (m : ℤ). m *ℤ k) (*ℤ_comm r x) ∙ mul_assoc_z x r k in
    let two : x *ℤ (r *ℤ k) -ℤ x *ℤ w ≡ x *ℤ (r *ℤ k -ℤ w) = sym (mul_diff x (r *ℤ k) w) in
    let three : pos 2 *ℤ (x *ℤ (r *ℤ k -ℤ w)) ≡ x *ℤ (pos 2 *ℤ (r *ℤ k -ℤ w)) =
    sym (mul_assoc_z (pos 2) x (r *ℤ k -ℤ w)) ∙ ap (λ (m : ℤ). m *ℤ (r *ℤ k -ℤ w)) (*ℤ_comm (pos 2) x)
    ∙ mul_assoc_z x (pos 2) (r *ℤ k -ℤ w) in
    ap (λ (m : ℤ). pos 2 *ℤ m) (ap (λ (m : ℤ). m -ℤ x *ℤ w) one ∙ two) ∙ three

pub shares_near : SharesAreNear
shares_near lo hi p low high =
    let order : lo.at <ℤ hi.at = omega (arith, ints) in
    let x = p.at -ℤ lo.at in
    let r = hi.at -ℤ lo.at in
    let n = unsigned_abs r in
    let w = moved hi -ℤ moved lo in
    let k = rate lo hi in
    let is : r ≡ pos n = omega (arith, ints) in
    let is_rate : k ≡ away_quotient w (pos n) = rw (rate_is lo hi order, is) refl in
    let spread = mul_diff x k (pos 65536) in
    let step : moved (placed lo hi p) -ℤ moved lo ≡ x *ℤ k =
    rw (← inside p lo hi low high, proportion_is p lo hi, spread) (omega (arith, ints)) in
    let near : unsigned_abs (pos 2 *ℤ (r *ℤ k -ℤ w)) ≤ n = rw (is_rate, is) (near_quotient w n (omega (arith, ints))) in
    let more = mul-le-mul_left (unsigned_abs x) near in
    rw (step, gathered r x k w, unsigned_abs-mul x (pos 2 *ℤ (r *ℤ k -ℤ w))) more
