use Rattle.std.proofs.Common.{◌≡◌, ◌++◌, ◌∷◌, [], List, ℕ, chars, map, ◌∙◌}
use Rattle.std.proofs.lemmas.Iterator.{YieldsList-from_slice, YieldsList-from_zip}
use Rattle.std.proofs.lemmas.Iterator.Consumers.{YieldsList-end, YieldsList-from_first}
use Rattle.std.proofs.lemmas.List.{flat_map_more, map-append}
use Rattle.tt_cmap.specs.declared.units.TextUnit.{TextUnit}
use Rattle.tt_cmap.specs.Maps.{units_by}
use Rattle.tt_render_lines.proofs.MeasureLines.{append_all}
use Rattle.tt_render_settings.specs.MeasureText.{character_text, face_text, font_text, picture_text}
use Rattle.tt_strike.specs.declared.measuring.CharacterMeasure.{CharacterMeasure}
use Rattle.tt_strike.specs.Measures.{measure_view}
use Rattle.tt_render_lines.proofs.measure_text.measure_text.Goals as goal

pub returns : goal.returns
returns c =
    let us = units_by c.args.face.now.cmap (chars c.args.text.now) in
    let from : c.units.result ≡ us = rw c.cmap.ensures.exact at c.units.ensures in
    let units = YieldsList-from_first (λ (u : TextUnit). u) (λ (left : List TextUnit). left) us cc in
    let measures = YieldsList-from_slice c.args.measure.now.characters.items cc in
    let e = YieldsList-end (YieldsList-from_zip units measures) c.loop-unit.yielded
    c.loop-unit.unit-iterator c.loop-unit.yielded_by c.next.result c.next.new.self c.in-None.is c.next.ensures.steps in
    (rw e.0 at c.loop-unit.invariant)
    ∙ append_all c.args.reading c.args.file.now c.args.face.now c.args.text.now (measure_view c.args.measure.now)

pub loop-unit-preserved : goal.loop-unit-preserved
loop-unit-preserved c =
    let line : TextUnit × CharacterMeasure → List ℕ = λ p. character_text p.0.character p.1 in
    let before = (face_text c.args.reading c.args.file.now ++ font_text c.args.face.now.metrics)
    ++ picture_text (measure_view c.args.measure.now) in
    rw (c.in_ok-extend_from_slice-2.ensures.items, c.as_bytes-in-loop-unit.ensures.exact, c.make_character_line.ensures)
    (rw (c.loop-unit.invariant, map-append {B = TextUnit × CharacterMeasure} (λ p. (p.0, p.1.now)) c.loop-unit.yielded ((c.in-Some.unit, c.in-Some.character) ∷ []))
    (flat_map_more line before (map (λ p. (p.0, p.1.now)) c.loop-unit.yielded) (c.in-Some.unit, c.in-Some.character.now)))
