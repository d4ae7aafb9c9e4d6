-- No kerning is no distance at every size.
use Rattle.std.proofs.Common.{◌≡◌, ◌∙◌, ap, ℕ, ℤ, pos, ◌+ℤ◌, ◌*ℤ◌, arith}
use Rattle.std.proofs.lemmas.Int.{ints}
use Rattle.tt_core.specs.declared.halves.Halves.TheVariants as halves
use Rattle.tt_core.specs.Scales.{away_quotient, factor, rounded_scale, scaled_by}
use Rattle.tt_fit.specs.outline.Steps.{pixels_of}
use Rattle.tt_metrics.specs.Metrics.{Metrics, units_per_em_of}
use Rattle.tt_picture.specs.Steps.{kerned_step}

none_scaled : (p : ℕ) → scaled_by (record { pixels = p; units = 65536; halves = halves.AwayFromZero }) (pos 0) ≡ pos 0
none_scaled p =
    let none : pos 0 *ℤ pos p ≡ pos 0 = omega (arith, ints) in
    ap (λ (n : ℤ). away_quotient n (pos 65536)) none

pub unkerned : (m : Metrics) (ppem : ℕ) (advance : ℤ) → kerned_step m ppem advance (pos 0) ≡ pixels_of advance
unkerned m ppem advance =
    let em = units_per_em_of m in
    let none : scaled_by (rounded_scale ppem em) (pos 0) ≡ pos 0 = none_scaled (factor ppem em) in
    let sum : advance +ℤ pos 0 ≡ advance = omega (arith, ints) in
    ap (λ (k : ℤ). pixels_of (advance +ℤ k)) none ∙ ap (λ (v : ℤ). pixels_of v) sum
