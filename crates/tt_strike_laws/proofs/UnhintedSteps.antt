-- The step of a glyph whose hinting is off is nearly its advance in pixels.
use Rattle.std.proofs.Common.{◌≡◌, ◌≢◌, ◌∙◌, ap, subst, sym, Bool, false, if◌then◌else◌, ℕ, zero, suc, ◌+◌, ◌*◌, ◌/◌, ◌<◌, ◌≤◌, ℤ, pos, negsuc, neg_ℤ, ◌+ℤ◌, ◌-ℤ◌, int_lt, unsigned_abs, inl, inr, arith, mul-le-mul_left}
use Rattle.std.proofs.Math.Nat.{lt_of_mul-lt-mul_left}
use Rattle.std.proofs.lemmas.Bool.{cases_lt}
use Rattle.std.proofs.lemmas.Int.{ints}
use Rattle.tt_core.specs.Numbers.{nearest_quotient, rounded_quotient}
use Rattle.tt_core.specs.Scales.{ScalesKeepDifferences, away_quotient, factor, rounded_scale, scaled_by}
use Rattle.tt_fit.specs.outline.Steps.{pixels_of}
use Rattle.tt_strike_laws.specs.UnhintedSteps.{IsNearHalf, UnhintedStepsAreNear, linear_step}

-- a quotient of natural numbers, rounded to the nearest
abbrev nearest : ℕ → ℕ → ℕ
nearest n d = (2 * n + d) / (2 * d)

not_below : (n : ℕ) → int_lt (pos n) (pos 0) ≡ false
not_below n = grind (arith, ints)

upward : (n d : ℕ) → rounded_quotient (pos n) (pos d) ≡ pos (nearest n d)
upward n d =
    ap (λ (b : Bool). if b then nearest_quotient (neg_ℤ (pos n)) (neg_ℤ (pos d)) else nearest_quotient (pos n) (pos d))
    (not_below d)

forward : (n d : ℕ) → away_quotient (pos n) (pos d) ≡ pos (nearest n d)
forward n d =
    let q : ℤ = nearest_quotient (pos n) (pos d) in
    ap (λ (b : Bool). if b then (if int_lt (pos d) (pos 0) then q else neg_ℤ q)
    else (if int_lt (pos d) (pos 0) then neg_ℤ q else q)) (not_below n)
    ∙ ap (λ (b : Bool). if b then neg_ℤ q else q) (not_below d)

floor_low : (n d : ℕ) → 0 < d → d * (n / d) ≤ n
floor_low n d some = grind arith

floor_high : (n d : ℕ) → 0 < d → n < d * (n / d) + d
floor_high n d some = grind arith

-- the rounded quotient is at most a half off
record IsHalfOff (n d q : ℕ) : Type 0 where
  low : 2 * (d * q) ≤ 2 * n + d
  high : 2 * n + d < 2 * (d * q) + 2 * d

nearest_off : (n d : ℕ) → 0 < d → IsHalfOff n d (nearest n d)
nearest_off n d some =
    let least = floor_low (2 * n + d) (2 * d) (omega (arith, some)) in
    let most = floor_high (2 * n + d) (2 * d) (omega (arith, some)) in
    record { low = omega (arith, least); high = omega (arith, most) }

-- an advance by the factor is at most a 64th of a pixel off the exact one
scaled_low : (e f p a t : ℕ) → IsHalfOff (p * 4194304) e f → IsHalfOff (a * f) 65536 t → a < 65536
    → e * t ≤ 64 * (a * p) + e
scaled_low e f p a t by_factor scaled small =
    let one = mul-le-mul_left a by_factor.low in
    let two = mul-le-mul_left e scaled.low in
    let bound = mul-le-mul_left e small in
    omega (arith, one, two, bound)

scaled_high : (e f p a t : ℕ) → IsHalfOff (p * 4194304) e f → IsHalfOff (a * f) 65536 t → a < 65536
    → 64 * (a * p) ≤ e * t + e
scaled_high e f p a t by_factor scaled small =
    let one = mul-le-mul_left a by_factor.high in
    let two = mul-le-mul_left e scaled.high in
    let bound = mul-le-mul_left e small in
    omega (arith, one, two, bound)

-- the step of a distance that is at most a 64th of a pixel off another
step_low : (t : ℕ) (v : ℤ) → unsigned_abs (pos t -ℤ v) ≤ 1 → 64 * pixels_of v ≤ t + 33
step_low t (pos n) near = omega (arith, ints, near)
step_low t (negsuc zero) near = omega (arith, ints, near)
step_low t (negsuc (suc n)) near = absurd (omega (arith, ints, near))

step_high : (t : ℕ) (v : ℤ) → unsigned_abs (pos t -ℤ v) ≤ 1 → t + 31 < 64 * pixels_of v + 64
step_high t (pos n) near = omega (arith, ints, near)
step_high t (negsuc zero) near = omega (arith, ints, near)
step_high t (negsuc (suc n)) near = absurd (omega (arith, ints, near))

-- the steps are at most a pixel apart
not_above : (e n t s l : ℕ) → 0 < e → e * t ≤ 64 * n + e → 64 * s ≤ t + 33 → IsHalfOff n e l → s ≤ l + 1
not_above e n t s l some off step exact =
    let one = mul-le-mul_left e step in
    let less : e * s < e * (l + 2) = omega (arith, one, off, exact.high, some) in
    let below : s < l + 2 = lt_of_mul-lt-mul_left e less in
    omega (arith, below)

not_under : (e n t s l : ℕ) → 0 < e → 64 * n ≤ e * t + e → t + 31 < 64 * s + 64 → IsHalfOff n e l → l ≤ s + 1
not_under e n t s l some off step exact =
    let one = mul-le-mul_left e step in
    let less : e * l < e * (s + 2) = omega (arith, one, off, exact.low, some) in
    let below : l < s + 2 = lt_of_mul-lt-mul_left e less in
    omega (arith, below)

-- where they differ, a half is near
half_below : (e n t s l : ℕ) → s ≡ l + 1 → e * t ≤ 64 * n + e → 64 * s ≤ t + 33 → IsHalfOff n e l
    → 16 * unsigned_abs (pos (2 * n) -ℤ pos (e * (2 * l + 1))) ≤ e
half_below e n t s l more off step exact =
    let one = mul-le-mul_left e step in
    let next : e * s ≡ e * l + e = rw more (omega arith) in
    omega (arith, ints, one, next, off, exact.high)

half_above : (e n t s l : ℕ) → l ≡ s + 1 → 64 * n ≤ e * t + e → t + 31 < 64 * s + 64 → IsHalfOff n e l
    → 16 * unsigned_abs (pos (2 * n) -ℤ pos (e * (2 * s + 1))) ≤ e
half_above e n t s l more off step exact =
    let one = mul-le-mul_left e step in
    let next : e * l ≡ e * s + e = rw more (omega arith) in
    omega (arith, ints, one, next, off, exact.low)

next_one : (s l : ℕ) → s ≢ l → s ≤ l + 1 → l ≤ s → s ≡ l + 1
next_one s l other above least = elim (cases_lt l s) [
  | inl more ↦ omega (arith, above, more)
  | inr same ↦ absurd (other (omega (arith, least, same)))
]

near_half : (e n t s l : ℕ) → 0 < e → s ≢ l → e * t ≤ 64 * n + e → 64 * n ≤ e * t + e → 64 * s ≤ t + 33
    → t + 31 < 64 * s + 64 → IsHalfOff n e l → IsNearHalf n e
near_half e n t s l some other low high step_least step_most exact =
    let above = not_above e n t s l some low step_least exact in
    let under = not_under e n t s l some high step_most exact in
    elim (cases_lt s l) [
      | inl less ↦ (s, half_above e n t s l (omega (arith, under, less)) high step_most exact)
      | inr least ↦ (l, half_below e n t s l (next_one s l other above least) low step_least exact)
    ]

pub unhinted_steps_are_near : ScalesKeepDifferences → UnhintedStepsAreNear
unhinted_steps_are_near differences p e a left some small is =
    let s = rounded_scale p e in
    let f = nearest (p * 4194304) e in
    let by : factor p e ≡ f = ap unsigned_abs (upward (p * 4194304) e) in
    let t = nearest (a * f) 65536 in
    let v = scaled_by s (left +ℤ pos a) -ℤ scaled_by s left in
    let whole : scaled_by s (pos a) ≡ pos t = forward (a * factor p e) 65536 ∙ ap (λ (k : ℕ). pos (nearest (a * k) 65536)) by in
    let between : (left +ℤ pos a) -ℤ left ≡ pos a = omega (arith, ints) in
    let near : unsigned_abs (pos t -ℤ v) ≤ 1 = subst (λ (z : ℤ). unsigned_abs (z -ℤ v) ≤ 1) (ap (scaled_by s) between ∙ whole)
    (differences s (left +ℤ pos a) left is) in
    let l = nearest (a * p) e in
    let linear : linear_step p e a ≡ l = ap unsigned_abs (upward (a * p) e) in
    let by_factor = nearest_off (p * 4194304) e some in
    let scaled = nearest_off (a * f) 65536 (omega arith) in
    let exact = nearest_off (a * p) e some in
    let low = scaled_low e f p a t by_factor scaled small in
    let high = scaled_high e f p a t by_factor scaled small in
    let step_least = step_low t v near in
    let step_most = step_high t v near in
    record {
      high = subst (λ (n : ℕ). pixels_of v ≤ n + 1) (sym linear) (not_above e (a * p) t (pixels_of v) l some low step_least exact);
      low = subst (λ (n : ℕ). n ≤ pixels_of v + 1) (sym linear) (not_under e (a * p) t (pixels_of v) l some high step_most exact);
      apart = λ other. near_half e (a * p) t (pixels_of v) l some (λ same. other (same ∙ sym linear)) low high step_least step_most exact;
    }
