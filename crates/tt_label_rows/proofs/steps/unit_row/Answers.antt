use Rattle.std.proofs.Common.{◌≡◌, ◌∙◌, ap, ap₂, sym, ℕ, ◌+◌, ◌<◌, ◌≤◌, ◌^◌, List, drop, get_or, length, map, refl, SFits, w32, arith}
use Rattle.std.proofs.lemmas.Int.{ints, to_z-of_z}
use Rattle.tt_label_rows.proofs.SteppedUnits.{all_stepped, as_many, line_glyph, line_rest, one_stepped, own_advance}
use Rattle.tt_label_rows.specs.Units.{unit_glyphs}
use Rattle.tt_line.specs.Steps.{kerning_before, step_by_units}
use Rattle.tt_rows.specs.Breaks.{no_unit}
use Rattle.tt_label_rows.proofs.steps.unit_row.Goals as goal

pub kerning_at-kerning-requires : goal.kerning_at-kerning-requires
kerning_at-kerning-requires c =
    let many = as_many c.args.units.now c.args.line.now c.requires.line in
    omega (arith, many, c.loop-i-test.true)

pub overflow_cast-own : goal.overflow_cast-own
overflow_cast-own c =
    let many = as_many c.args.units.now c.args.line.now c.requires.line in
    let small : (get_or c.args.line.now c.loop-i.i (0, 0)).1 < 2 ^ 16 = c.requires.bound c.loop-i.i (0, 0) (omega (arith, many, c.loop-i-test.true)) in
    omega (arith, small)

pub loop-i-init : goal.loop-i-init
loop-i-init c = λ advance are. rw c.in_ok-made.ensures.items refl

pub loop-i-preserved : goal.loop-i-preserved
loop-i-preserved c = λ advance are.
    let at = c.loop-i in
    let us = c.args.units.now in
    let line = c.args.line.now in
    let m = c.args.metrics.now in
    let step = step_by_units m c.args.ppem advance in
    let below : at.i < length us = omega (arith, c.loop-i-test.true) in
    let glyph = line_glyph us line at.i c.requires.line below in
    let rest = line_rest us line (at.i + 1) c.requires.line in
    let own : (get_or line at.i (0, 0)).1 ≡ advance (get_or us at.i no_unit).glyph = own_advance advance us line at.i are below in
    let kerning = c.kerning_at-kerning.ensures.exact ∙ ap₂ (λ (g : ℕ) (gs : List ℕ). kerning_before m g gs) glyph rest in
    let near : SFits w32 c.kerning_at-kerning.result = omega (arith, ints, c.kerning_at-kerning.ensures.bound) in
    let kerned = simp to_z-of_z at c.step_of_units-in-loop-i.ensures.exact in
    rw c.in_ok-push.ensures.items (one_stepped m step us at.made.items at.i _ below (rw (c.step_of_units.ensures.exact, kerned, kerning, own) refl)
    ∙ at.invariant advance are)

pub returns : goal.returns
returns c = λ advance are.
    let at = c.loop-i in
    let us = c.args.units.now in
    let m = c.args.metrics.now in
    sym (all_stepped m (step_by_units m c.args.ppem advance) us at.made.items at.i (omega (arith, c.loop-i-test.false)))
    ∙ at.invariant advance are
