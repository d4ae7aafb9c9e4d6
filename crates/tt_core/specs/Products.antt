-- Not from the standard: lemmas about whole numbers, products and the floor of a quotient. The standard library lacks
-- them.
use Rattle.std.proofs.Common.{◌≡◌, ℕ, ◌+◌, ◌*◌, ◌≤◌, ap, arith, mul-le-mul_left}
use Rattle.std.specs.Prelude.{ℤ, pos, negsuc, ◌+ℤ◌, ◌-ℤ◌, ◌*ℤ◌, neg_ℤ, ◌≤ℤ◌, ◌<ℤ◌}
use Rattle.std.proofs.lemmas.Int.{ints, by_lt_z}
use borrow.Author.Differences.{up, down, sum_is_lem, neg_is, product_is}
use lib.IntN.{*ℤ_comm}

-- a factor distributes over a sum, a changed sign and a difference
pub mul_sum : (a b c : ℤ) → a *ℤ (b +ℤ c) ≡ a *ℤ b +ℤ a *ℤ c
mul_sum a b c =
    let above = ap (λ (x : ℕ). up a * x) (sum_is_lem b c) in
    let below = ap (λ (x : ℕ). down a * x) (sum_is_lem b c) in
    omega (arith, ints)

pub mul_neg : (a b : ℤ) → a *ℤ neg_ℤ b ≡ neg_ℤ (a *ℤ b)
mul_neg a b =
    let above_up = ap (λ (x : ℕ). up a * x) (neg_is b).0 in
    let above_down = ap (λ (x : ℕ). up a * x) (neg_is b).1 in
    let below_up = ap (λ (x : ℕ). down a * x) (neg_is b).0 in
    let below_down = ap (λ (x : ℕ). down a * x) (neg_is b).1 in
    omega (arith, ints)

pub mul_diff : (a b c : ℤ) → a *ℤ (b -ℤ c) ≡ a *ℤ b -ℤ a *ℤ c
mul_diff a b c = let sum = mul_sum a b (neg_ℤ c) in let turned = mul_neg a c in omega (arith, ints)

pub neg_mul : (a b : ℤ) → neg_ℤ a *ℤ b ≡ neg_ℤ (a *ℤ b)
neg_mul a b = omega (arith, ints, mul_neg b a, *ℤ_comm (neg_ℤ a) b)

pub mul_assoc_z : (a b c : ℤ) → (a *ℤ b) *ℤ c ≡ a *ℤ (b *ℤ c)
mul_assoc_z a b c =
    let l0 = ap (λ (x : ℕ). x * up c) (product_is a b).0 in
    let l1 = ap (λ (x : ℕ). x * down c) (product_is a b).0 in
    let l2 = ap (λ (x : ℕ). x * up c) (product_is a b).1 in
    let l3 = ap (λ (x : ℕ). x * down c) (product_is a b).1 in
    let r0 = ap (λ (x : ℕ). up a * x) (product_is b c).0 in
    let r1 = ap (λ (x : ℕ). down a * x) (product_is b c).0 in
    let r2 = ap (λ (x : ℕ). up a * x) (product_is b c).1 in
    let r3 = ap (λ (x : ℕ). down a * x) (product_is b c).1 in
    omega (arith, ints)

-- a factor that is not negative preserves the order; a positive factor can be cancelled
pub mul_mono : (d a b : ℤ) → pos 0 ≤ℤ d → a ≤ℤ b → (d *ℤ a) ≤ℤ (d *ℤ b)
mul_mono (pos n) a b low h =
    let order : up a + down b ≤ up b + down a = omega (arith, ints) in
    let more = mul-le-mul_left n order in
    omega (arith, ints)
mul_mono (negsuc n) a b low h = absurd (omega (arith, ints))

pub cancel_le : (d a b : ℤ) → pos 0 <ℤ d → (d *ℤ a) ≤ℤ (d *ℤ b) → a ≤ℤ b
cancel_le d a b low h =
    let spread = mul_sum d b (pos 1) in
    let step : b <ℤ a → (d *ℤ (b +ℤ pos 1)) ≤ℤ (d *ℤ a) = λ less. mul_mono d (b +ℤ pos 1) a (omega (arith, ints))
    (omega (arith, ints)) in
    by_lt_z b a (λ less. let above = step less in absurd (omega (arith, ints))) (λ h. h)

-- n is d times q plus a rest below d. A multiple of d by more than q is above n; a multiple by at most q is not
pub floor_above : (d q rest n c : ℤ) → pos 0 ≤ℤ rest → rest <ℤ d → d *ℤ q +ℤ rest ≡ n → q <ℤ c → n <ℤ (d *ℤ c)
floor_above d q rest n c left high is more =
    let step : (d *ℤ (q +ℤ pos 1)) ≤ℤ (d *ℤ c) = mul_mono d (q +ℤ pos 1) c (omega (arith, ints))
    (omega (arith, ints)) in
    let spread = mul_sum d q (pos 1) in
    omega (arith, ints)

pub floor_below : (d q rest n c : ℤ) → pos 0 ≤ℤ d → pos 0 ≤ℤ rest → d *ℤ q +ℤ rest ≡ n → c ≤ℤ q → (d *ℤ c) ≤ℤ n
floor_below d q rest n c low left is less = omega (arith, ints, mul_mono d c q low less)
