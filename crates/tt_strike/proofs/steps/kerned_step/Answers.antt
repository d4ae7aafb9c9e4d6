use Rattle.std.proofs.Common.{◌≡◌, ◌∙◌, ap, sym, ◌+ℤ◌, pos, SFits, w32, w64, of_z, to_z, refl, rules, arith}
use Rattle.std.proofs.lemmas.Int.{ints, to_z-of_z}
use Rattle.tt_core.specs.Scales.{rounded_scale, scaled_by}
use Rattle.tt_metrics.specs.Metrics.{units_per_em_of}
use Rattle.tt_strike.proofs.Unkerned.{unkerned}
use Rattle.tt_strike.proofs.steps.kerned_step.Goals as goal

pub returns-then-kerning-eq0 : goal.returns-then-kerning-eq0
returns-then-kerning-eq0 c =
    let advance : SFits w32 c.args.advance_left = c.ranges.advance_left in
    let kerning : SFits w32 c.args.kerning = c.ranges.kerning in
    let same : to_z w32 (of_z w32 c.args.kerning) ≡ c.args.kerning = simp to_z-of_z refl in
    let none : c.args.kerning ≡ pos 0 = sym same ∙ ap (to_z w32) c.if-kerning-eq0.true in
    let wide : SFits w64 c.from.result = search rules in
    let is_advance : c.from.result ≡ c.args.advance_left = simp to_z-of_z at c.from.ensures in
    let whole : to_z w64 (of_z w64 c.from.result) ≡ c.from.result = simp to_z-of_z refl in
    let step = rw (whole, is_advance) at c.pixels_of.ensures.exact in
    rw (none, unkerned c.args.metrics.now c.args.ppem c.args.advance_left) step

pub returns : goal.returns
returns c =
    let advance : SFits w32 c.args.advance_left = c.ranges.advance_left in
    let kerning : SFits w32 c.args.kerning = c.ranges.kerning in
    let wide : SFits w64 c.from-2.result = search rules in
    let part : SFits w64 c.scaled.result = search rules in
    let is_advance : c.from-2.result ≡ c.args.advance_left = simp to_z-of_z at c.from-2.ensures in
    let same : to_z w32 (of_z w32 c.args.kerning) ≡ c.args.kerning = simp to_z-of_z refl in
    let scale = c.rounded-scale.ensures.exact in
    let em = c.units_per_em.ensures.exact in
    let is_part : c.scaled.result ≡ scaled_by (rounded_scale c.args.ppem (units_per_em_of c.args.metrics.now)) c.args.kerning =
    rw (same, scale, em) at c.scaled.ensures.exact in
    let few = rw same at c.scaled.ensures.bound in
    let sum : SFits w64 (c.from-2.result +ℤ c.scaled.result) = omega (arith, ints, is_advance, few, c.requires.kerning) in
    let whole : to_z w64 (of_z w64 (to_z w64 (of_z w64 c.from-2.result) +ℤ to_z w64 (of_z w64 c.scaled.result))) ≡ c.from-2.result +ℤ c.scaled.result =
    simp to_z-of_z refl in
    rw (whole, is_advance, is_part) at c.pixels_of-2.ensures.exact
