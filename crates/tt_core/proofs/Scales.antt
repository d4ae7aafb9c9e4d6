-- Scales preserve the order of distances, and differences up to 1; with halves away from zero they are odd.
use Rattle.std.proofs.Common.{◌≡◌, ◌∙◌, sym, ap, subst, Bool, false, if◌then◌else◌, ℕ, zero, suc, ◌+◌, ◌*◌, ◌/◌, ◌<◌, ◌≤◌, ℤ, pos, negsuc, neg_ℤ, ◌+ℤ◌, ◌-ℤ◌, ◌*ℤ◌, ◌≤ℤ◌, int_lt, unsigned_abs, arith}
use Rattle.std.specs.Int.{int_div_euclid}
use Rattle.std.proofs.Math.IntN.{neg_ℤ-neg_ℤ, *ℤ_comm}
use Rattle.std.proofs.Math.Nat.{lt_of_mul-lt-mul_left}
use Rattle.std.proofs.lemmas.Int.{ints}
use borrow.Author.Differences.{up, down, neg_is}
use Rattle.tt_core.specs.Numbers.{nearest_quotient}
use Rattle.tt_core.specs.Products.{mul_diff, mul_mono, neg_mul}
use Rattle.tt_core.specs.Scales.{quotient, ScalesKeepOrder, ScalesAreOdd, ScalesKeepDifferences}
use Rattle.tt_core.specs.declared.halves.Halves.{Halves}
use Rattle.tt_core.specs.declared.halves.Halves.TheVariants as halves

no_less : (a b d : ℕ) → 0 < d → a ≤ b → a / d ≤ b / d
no_less a b d some h = grind arith

euclid_no_less : (a b : ℤ) (d : ℕ) → 0 < d → a ≤ℤ b → int_div_euclid a (pos d) ≤ℤ int_div_euclid b (pos d)
euclid_no_less (pos a) (pos b) d some h = let q = no_less a b d some (omega (arith, ints)) in omega (arith, ints)
euclid_no_less (pos a) (negsuc b) d some h = absurd (omega (arith, ints))
euclid_no_less (negsuc a) (pos b) d some h = omega (arith, ints)
euclid_no_less (negsuc a) (negsuc b) d some h =
    let q = no_less b a d some (omega (arith, ints)) in omega (arith, ints)

nearest_no_less : (m n : ℤ) (d : ℕ) → 0 < d → m ≤ℤ n → nearest_quotient m (pos d) ≤ℤ nearest_quotient n (pos d)
nearest_no_less m n d some h =
    euclid_no_less (pos 2 *ℤ m +ℤ pos d) (pos 2 *ℤ n +ℤ pos d) (2 * d) (omega arith) (omega (arith, ints))

not_below : (n : ℕ) → int_lt (pos n) (pos 0) ≡ false
not_below n = grind (arith, ints)

-- each rule, by the sign of the numerator
upward : (n : ℤ) (d : ℕ) → quotient halves.Up n (pos d) ≡ nearest_quotient n (pos d)
upward n d =
    ap (λ (b : Bool). if b then nearest_quotient (neg_ℤ n) (neg_ℤ (pos d)) else nearest_quotient n (pos d))
    (not_below d)

forward : (n d : ℕ) → quotient halves.AwayFromZero (pos n) (pos d) ≡ nearest_quotient (pos n) (pos d)
forward n d =
    let q : ℤ = nearest_quotient (pos n) (pos d) in
    ap (λ (b : Bool). if b then (if int_lt (pos d) (pos 0) then q else neg_ℤ q)
    else (if int_lt (pos d) (pos 0) then neg_ℤ q else q)) (not_below n)
    ∙ ap (λ (b : Bool). if b then neg_ℤ q else q) (not_below d)

backward : (n d : ℕ) → quotient halves.AwayFromZero (negsuc n) (pos d) ≡ neg_ℤ (nearest_quotient (pos (suc n)) (pos d))
backward n d =
    let q : ℤ = nearest_quotient (pos (suc n)) (pos d) in
    ap (λ (b : Bool). if b then q else neg_ℤ q) (not_below d)

not_negative : (n d : ℕ) → pos 0 ≤ℤ nearest_quotient (pos n) (pos d)
not_negative n d = omega (arith, ints)

quotient_no_less : (h : Halves) (m n : ℤ) (d : ℕ) → 0 < d → m ≤ℤ n → quotient h m (pos d) ≤ℤ quotient h n (pos d)
quotient_no_less halves.Up m n d some h = rw (upward m d, upward n d) (nearest_no_less m n d some h)
quotient_no_less halves.AwayFromZero (pos m) (pos n) d some h =
    rw (forward m d, forward n d) (nearest_no_less (pos m) (pos n) d some h)
quotient_no_less halves.AwayFromZero (pos m) (negsuc n) d some h = absurd (omega (arith, ints))
quotient_no_less halves.AwayFromZero (negsuc m) (pos n) d some h =
    let a = not_negative (suc m) d in
    let b = not_negative n d in
    rw (backward m d, forward n d) (omega (arith, ints))
quotient_no_less halves.AwayFromZero (negsuc m) (negsuc n) d some h =
    let q = nearest_no_less (pos (suc n)) (pos (suc m)) d some (omega (arith, ints)) in
    rw (backward m d, backward n d) (omega (arith, ints))

times_no_less : (v w : ℤ) (p : ℕ) → v ≤ℤ w → (v *ℤ pos p) ≤ℤ (w *ℤ pos p)
times_no_less v w p h =
    rw (*ℤ_comm v (pos p), *ℤ_comm w (pos p)) (mul_mono (pos p) v w (omega (arith, ints)) h)

pub keep_order : ScalesKeepOrder
keep_order s v w is h =
    quotient_no_less s.halves (v *ℤ pos s.pixels) (w *ℤ pos s.pixels) s.units is.some (times_no_less v w s.pixels h)

none_of_none : (d : ℕ) → 0 < d → (0 + d) / (2 * d) ≡ 0
none_of_none d some = grind arith

quotient_odd : (h : Halves) (n : ℤ) (d : ℕ) → 0 < d → h ≡ halves.AwayFromZero
    → quotient h (neg_ℤ n) (pos d) ≡ neg_ℤ (quotient h n (pos d))
quotient_odd halves.Up n d some e = absurd (cc)
quotient_odd halves.AwayFromZero (pos zero) d some e =
    let none : nearest_quotient (pos 0) (pos d) ≡ pos 0 = ap pos (none_of_none d some) in
    forward 0 d ∙ (none ∙ sym (ap neg_ℤ (forward 0 d ∙ none)))
quotient_odd halves.AwayFromZero (pos (suc n)) d some e = backward n d ∙ sym (ap neg_ℤ (forward (suc n) d))
quotient_odd halves.AwayFromZero (negsuc n) d some e =
    forward (suc n) d ∙ sym (ap neg_ℤ (backward n d) ∙ neg_ℤ-neg_ℤ _)

pub are_odd : ScalesAreOdd
are_odd s v is e = rw (neg_mul v (pos s.pixels)) (quotient_odd s.halves (v *ℤ pos s.pixels) s.units is.some e)

-- the distance of d q from n is at most half of d
record IsNear (n q : ℤ) (d : ℕ) : Type 0 where
  low : 2 * (d * up q) + 2 * down n ≤ 2 * up n + 2 * (d * down q) + d
  high : 2 * up n + 2 * (d * down q) ≤ 2 * (d * up q) + 2 * down n + d

record IsFloor (n q : ℤ) (d : ℕ) : Type 0 where
  low : d * up q + down n ≤ up n + d * down q
  high : up n + d * down q < d * up q + down n + d

floor : (n : ℤ) (d : ℕ) → 0 < d → IsFloor n (int_div_euclid n (pos d)) d
floor (pos n) d some = record { low = grind arith; high = grind arith }
floor (negsuc n) d some = record { low = grind arith; high = grind arith }

nearest_near : (n : ℤ) (d : ℕ) → 0 < d → IsNear n (nearest_quotient n (pos d)) d
nearest_near n d some =
    let f = floor (pos 2 *ℤ n +ℤ pos d) (2 * d) (omega arith) in
    record { low = omega (arith, ints, f.low, f.high); high = omega (arith, ints, f.low, f.high) }

turned_near : (n q : ℤ) (d : ℕ) → IsNear n q d → IsNear (neg_ℤ n) (neg_ℤ q) d
turned_near n q d near =
    let above = ap (λ (x : ℕ). d * x) (neg_is q).0 in
    let below = ap (λ (x : ℕ). d * x) (neg_is q).1 in
    record { low = omega (arith, ints, near.low, near.high); high = omega (arith, ints, near.low, near.high) }

quotient_near : (h : Halves) (n : ℤ) (d : ℕ) → 0 < d → IsNear n (quotient h n (pos d)) d
quotient_near halves.Up n d some = subst (λ (q : ℤ). IsNear n q d) (sym (upward n d)) (nearest_near n d some)
quotient_near halves.AwayFromZero (pos n) d some =
    subst (λ (q : ℤ). IsNear (pos n) q d) (sym (forward n d)) (nearest_near (pos n) d some)
quotient_near halves.AwayFromZero (negsuc n) d some =
    subst (λ (q : ℤ). IsNear (negsuc n) q d) (sym (backward n d))
    (turned_near (pos (suc n)) _ d (nearest_near (pos (suc n)) d some))

within_one : (a b d : ℕ) → 0 < d → 2 * (d * a) ≤ 2 * (d * b) + 3 * d → a ≤ b + 1
within_one a b d some h =
    let less : d * a < d * (b + 2) = omega arith in
    let below : a < b + 2 = lt_of_mul-lt-mul_left d less in omega arith

differences_near : (m n k p q r : ℤ) (d : ℕ) → 0 < d → k ≡ m -ℤ n → IsNear m p d → IsNear n q d → IsNear k r d
    → unsigned_abs (r -ℤ (p -ℤ q)) ≤ 1
differences_near m n k p q r d some e near_p near_q near_r =
    let high : up r + up q + down p ≤ (down r + down q + up p) + 1 =
    within_one (up r + up q + down p) (down r + down q + up p) d some (omega (arith, ints)) in
    let low : down r + down q + up p ≤ (up r + up q + down p) + 1 =
    within_one (down r + down q + up p) (up r + up q + down p) d some (omega (arith, ints)) in
    omega (arith, ints, high, low)

times_less : (v w : ℤ) (p : ℕ) → (v -ℤ w) *ℤ pos p ≡ v *ℤ pos p -ℤ w *ℤ pos p
times_less v w p =
    rw (*ℤ_comm (v -ℤ w) (pos p), *ℤ_comm v (pos p), *ℤ_comm w (pos p)) (mul_diff (pos p) v w)

pub keep_differences : ScalesKeepDifferences
keep_differences s v w is =
    let at : (n : ℤ) → IsNear n (quotient s.halves n (pos s.units)) s.units =
    λ n. quotient_near s.halves n s.units is.some in
    differences_near (v *ℤ pos s.pixels) (w *ℤ pos s.pixels) ((v -ℤ w) *ℤ pos s.pixels) _ _ _ s.units is.some
    (times_less v w s.pixels) (at _) (at _) (at _)
