use Rattle.std.proofs.Common.{◌≡◌, ◌∙◌, ap, ℕ, ◌<◌, length, true}
use Rattle.std.proofs.lemmas.List.{length-map, with_items_is}
use Rattle.std.proofs.lemmas.Result.{IfOk-weaker}
use Rattle.std.proofs.lemmas.List.Elements.{All-map}
use Rattle.tt_label_rows.proofs.SteppedUnits.{at_zero}
use Rattle.tt_label_rows.specs.Units.{unit_glyphs}
use Rattle.tt_line.specs.Steps.{stepped}
use Rattle.tt_picture.specs.Distinct.{is_among}
use Rattle.tt_picture.specs.Fitted.{fitted_numbers}
use Rattle.tt_picture.specs.Steps.{step_by}
use Rattle.tt_label.proofs.gathering.stepped_line.Goals as goal

pub put_steps-requires-clause-known : goal.put_steps-requires-clause-known
put_steps-requires-clause-known c =
    rw (c.deref.ensures.value, c.deref_mut.ensures.value, c.in_ok-line.ensures.exact)
    (All-map (λ (g : ℕ × ℕ). g.0 < length c.args.glyphs.now.places.items) at_zero c.args.units.now c.requires.known)

pub put_steps-requires-clause-among : goal.put_steps-requires-clause-among
put_steps-requires-clause-among c =
    rw (c.deref-2.ensures.value, c.deref_mut.ensures.value, c.in_ok-line.ensures.exact)
    (All-map (λ (g : ℕ × ℕ). is_among g.0 (fitted_numbers c.args.glyphs.now.fitted.items) ≡ true) at_zero c.args.units.now c.requires.among)

pub put_units-requires-clause-line : goal.put_units-requires-clause-line
put_units-requires-clause-line c =
    let many = ap length c.in_ok-line.ensures.exact ∙ length-map c.args.units.now at_zero in
    rw (c.deref-3.ensures.value, with_items_is c.in_ok-line.line c.put_steps.new.line (c.put_steps.auto.line ∙ c.deref_mut.ensures.len))
    (c.put_steps.auto.line ∙ ap length c.deref_mut.ensures.value ∙ many)

pub returns : goal.returns
returns c = IfOk-weaker c.put_units.result _ _ (λ v h advance are.
    let m = c.args.source.now.face.now.metrics in
    let step = step_by m c.args.source.now.ppem advance in
    let put : c.put_steps.new.line ≡ stepped m step (unit_glyphs c.args.units.now) =
    rw (c.metrics-metrics.ensures, c.deref_mut.ensures.value, c.in_ok-line.ensures.numbers) at (c.put_steps.ensures advance (rw c.deref-2.ensures.value are)) in
    h advance are (c.deref-3.ensures.value ∙ with_items_is c.in_ok-line.line c.put_steps.new.line (c.put_steps.auto.line ∙ c.deref_mut.ensures.len) ∙ put)) c.put_units.ensures
