use Rattle.std.proofs.Common.{◌≡◌, ◌∙◌, sym, ap, ℕ, zero, suc, ℤ, ◌+◌, ◌<◌, List, [], ◌∷◌, drop, get_or, length, refl, arith}
use Rattle.std.proofs.lemmas.List.{get_or-map, length-map}
use Rattle.tt_label_rows.proofs.SteppedUnits.{all_stepped, one_stepped}
use Rattle.tt_label_rows.specs.Units.{unit_glyphs}
use Rattle.tt_line.proofs.Stepped.{stepped_at}
use Rattle.tt_line.specs.Steps.{kerning_before, stepped}
use Rattle.tt_metrics.specs.Metrics.{Metrics}
use Rattle.tt_picture.specs.Steps.{step_by}
use Rattle.tt_rows.specs.Breaks.{no_unit}
use Rattle.tt_rows.specs.declared.unit.RowUnit.{RowUnit}
use Rattle.tt_label.proofs.gathering.put_units.Goals as goal

drop_glyphs : (us : List RowUnit) (i : ℕ) → drop i (unit_glyphs us) ≡ unit_glyphs (drop i us)
drop_glyphs us zero = refl
drop_glyphs [] (suc i) = refl
drop_glyphs (u ∷ us) (suc i) = drop_glyphs us i

-- the kerned step of a unit
kerned_at : (m : Metrics) (step : ℕ → ℤ → ℕ) (us : List RowUnit) (i : ℕ) → i < length us
    → (get_or (stepped m step (unit_glyphs us)) i (0, 0)).1
    ≡ step (get_or us i no_unit).glyph (kerning_before m (get_or us i no_unit).glyph (unit_glyphs (drop (i + 1) us)))
kerned_at m step us i below =
    let glyph : RowUnit → ℕ = λ u. u.glyph in
    let within : i < length (unit_glyphs us) = let many = length-map us glyph in omega (arith, many, below) in
    let own : get_or (unit_glyphs us) i 0 ≡ (get_or us i no_unit).glyph = get_or-map glyph us i no_unit 0 below in
    ap (λ (p : ℕ × ℕ). p.1) (stepped_at m step (unit_glyphs us) i within)
    ∙ rw (own, drop_glyphs us (i + 1)) refl

pub loop-i-init : goal.loop-i-init
loop-i-init c = λ advance are is. rw c.in_ok-made.ensures.items refl

pub plain_step-requires-clause-known : goal.plain_step-requires-clause-known
plain_step-requires-clause-known c =
    rw c.deref.ensures.value (c.requires.known c.loop-i.i no_unit (omega (arith, c.loop-i-test.true)))

pub plain_step-requires-clause-among : goal.plain_step-requires-clause-among
plain_step-requires-clause-among c =
    rw c.deref-in-loop-i.ensures.value (c.requires.among c.loop-i.i no_unit (omega (arith, c.loop-i-test.true)))

pub loop-i-preserved : goal.loop-i-preserved
loop-i-preserved c = λ advance are is.
    let at = c.loop-i in
    let us = c.args.units.now in
    let m = c.args.source.now.face.now.metrics in
    let step = step_by m c.args.source.now.ppem advance in
    let below : at.i < length us = omega (arith, c.loop-i-test.true) in
    let plain = rw c.metrics-metrics.ensures at (c.plain_step.ensures advance (rw c.deref-in-loop-i.ensures.value are)) in
    let kerned : (get_or c.args.line.now at.i (0, 0)).1
    ≡ step (get_or us at.i no_unit).glyph (kerning_before m (get_or us at.i no_unit).glyph (unit_glyphs (drop (at.i + 1) us))) =
    ap (λ (l : List (ℕ × ℕ)). (get_or l at.i (0, 0)).1) is ∙ kerned_at m step us at.i below in
    rw c.in_ok-push.ensures.items (one_stepped m step us at.made.items at.i _ below (rw (plain, kerned) refl) ∙ at.invariant advance are is)

pub returns : goal.returns
returns c = λ advance are is.
    let at = c.loop-i in
    let us = c.args.units.now in
    let m = c.args.source.now.face.now.metrics in
    sym (all_stepped m (step_by m c.args.source.now.ppem advance) us at.made.items at.i (omega (arith, c.loop-i-test.false))) ∙ at.invariant advance are is
