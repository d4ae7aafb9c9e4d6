use Rattle.std.proofs.Common.{◌≡◌, ◌∙◌, [], chars, sym}
use Rattle.std.proofs.lemmas.List.{flat_map_more}
use Rattle.tt_advances.proofs.Advances.{plain_advances}
use Rattle.tt_advances.specs.Found.{units_of}
use Rattle.tt_cmap.specs.Maps.{glyph_of_unit, units_by}
use Rattle.tt_render_run.specs.MapLines.{map_line}
use Rattle.tt_render_run.proofs.Mapped.{at-the-end, goes-on}
use Rattle.tt_render_run.proofs.mapping.lines.Goals as goal

pub returns : goal.returns
returns c =
    let us = units_by c.args.face.now.cmap (chars c.args.text.now) in
    let all = at-the-end c.loop-unit.yielded c.loop-unit.unit-iterator us c.in-None.ensures.steps.0 c.loop-unit.invariant.split in
    rw (← all) c.loop-unit.invariant.lines

pub loop-unit-preserved : goal.loop-unit-preserved
loop-unit-preserved c =
    let face = c.args.face.now in
    let was = c.loop-unit.invariant in
    let u = c.in-Some.unit in
    let glyph : c.glyph_of_unit-glyph.result ≡ glyph_of_unit face.cmap u = rw was.same at c.glyph_of_unit-glyph.ensures.exact in
    let plain = plain_advances face c.requires in
    let units : c.advance.result ≡ units_of face (glyph_of_unit face.cmap u) =
    (rw (c.metrics-metrics.ensures, glyph) at c.advance.ensures) ∙ sym (plain.units (glyph_of_unit face.cmap u)) in
    record {
      split = goes-on c.loop-unit.yielded c.loop-unit.unit-iterator _ (units_by face.cmap (chars c.args.text.now)) u c.in-Some.ensures.steps was.split;
      lines = rw (c.in_ok-extend_from_slice.ensures.items, c.as_bytes.ensures.exact, c.make_line.ensures)
          (rw (units, glyph, was.lines) (flat_map_more (map_line face) [] c.loop-unit.yielded u));
      same = c.glyph_of_unit-glyph.ensures.same ∙ was.same;
    }
