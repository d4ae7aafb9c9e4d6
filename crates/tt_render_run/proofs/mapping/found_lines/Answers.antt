use Rattle.std.proofs.Common.{◌≡◌, ◌∙◌, ◌<◌, List, [], chars, refl, sym, Ok}
use Rattle.std.proofs.lemmas.List.{flat_map_more}
use Rattle.std.proofs.lemmas.Result.{err_from_is_err_and}
use Rattle.tt_advances.proofs.Advances.{found_whole}
use Rattle.tt_advances.proofs.Finding.{tables_refuse, tables_tell, test_tells, tested_by}
use Rattle.tt_advances.specs.Found.{advances_tested, all_found, glyph_units, units_of}
use Rattle.tt_cmap.specs.Maps.{glyph_of_unit, units_by}
use Rattle.tt_line.specs.Layout.{text_glyphs}
use Rattle.tt_metrics.specs.Metrics.{glyphs_of}
use Rattle.tt_render_run.specs.MapLines.{map_line}
use Rattle.tt_render_run.proofs.Mapped.{at-the-end, found_next, found_stops, goes-on, none_left, tested_lines, units_found, untested_lines}
use Rattle.tt_render_run.proofs.mapping.found_lines.Goals.{After-glyph_of_unit-number, In-None}
use Rattle.tt_render_run.proofs.mapping.found_lines.Goals as goal

-- the glyph of a unit
glyph_is : (c : After-glyph_of_unit-number) → c.glyph_of_unit-number.result ≡ glyph_of_unit c.args.face.now.cmap c.in-Some.unit
glyph_is c = rw c.loop-unit.invariant.same at c.glyph_of_unit-number.ensures.exact

pub units-requires : goal.units-requires
units-requires c =
    let bound = rw c.loop-unit.invariant.same at c.glyph_of_unit-number.ensures.bound in
    rw (c.loop-unit.invariant.face, ← c.cmap-cmap.ensures.glyphs, c.cmap-cmap.ensures.exact) bound

pub loop-unit-preserved : goal.loop-unit-preserved
loop-unit-preserved c =
    let face = c.args.face.now in
    let was = c.loop-unit.invariant in
    let u = c.in-Some.unit in
    let found = glyph_units face.instance face.metrics c.loop-unit.found.tables in
    let glyph = glyph_is (goal.at.loop-unit-preserved c).After-glyph_of_unit-number in
    let is : found (glyph_of_unit face.cmap u) ≡ Ok c.in_ok-units.units = rw (was.face, glyph) at c.in_ok-units.ensures.exact in
    let units : c.in_ok-units.units ≡ units_of face (glyph_of_unit face.cmap u) =
    units_found face c.loop-unit.found.tables (glyph_of_unit face.cmap u) c.in_ok-units.units was.there is in
    let next = found_next found (glyph_of_unit face.cmap) (all_found found (text_glyphs face.cmap c.args.text.now)) c.loop-unit.unit-iterator _ u
    c.in_ok-units.units was.tested c.in-Some.ensures.steps is in
    rw c.in_ok-units.ensures.same (record {
      split = goes-on c.loop-unit.yielded c.loop-unit.unit-iterator _ (units_by face.cmap (chars c.args.text.now)) u c.in-Some.ensures.steps was.split;
      lines = rw (c.in_ok-extend_from_slice.ensures.items, c.as_bytes.ensures.exact, c.make_line.ensures)
          (rw (units, glyph, was.lines) (flat_map_more (map_line face) [] c.loop-unit.yielded u));
      same = c.glyph_of_unit-number.ensures.same ∙ was.same;
      face = was.face;
      there = was.there;
      tested = next;
    })

pub returns-in_err-found-clause-exact : goal.returns-in_err-found-clause-exact
returns-in_err-found-clause-exact c =
    let p = err_from_is_err_and c.from_residual.result c.from_residual.ensures.1 in
    let face = c.args.face.now in
    let gs = text_glyphs face.cmap c.args.text.now in
    rw (p.1, p.2) (untested_lines face c.args.text.now c.in_err-found.field-0.0
    (tables_refuse face gs c.in_err-found.field-0.0 c.requires c.in_err-found.ensures.tables))

pub returns-in_err-found-clause-defects : goal.returns-in_err-found-clause-defects
returns-in_err-found-clause-defects c =
    let p = err_from_is_err_and c.from_residual.result c.from_residual.ensures.1 in
    let face = c.args.face.now in
    let gs = text_glyphs face.cmap c.args.text.now in
    rw (p.1, p.2) (tables_tell face gs c.in_err-found.field-0.0 c.requires c.in_err-found.ensures.fault)

pub returns-in_err-units-clause-exact : goal.returns-in_err-units-clause-exact
returns-in_err-units-clause-exact c =
    let p = err_from_is_err_and c.from_residual-in_err-units.result c.from_residual-in_err-units.ensures.1 in
    let face = c.args.face.now in
    let was = c.loop-unit.invariant in
    let t = c.loop-unit.found.tables in
    let gs = text_glyphs face.cmap c.args.text.now in
    let e = c.in_err-units.field-0.0 in
    let found = glyph_units face.instance face.metrics t in
    let glyph = glyph_is (goal.at.returns-in_err-units-clause-exact c).After-glyph_of_unit-number in
    let fails = rw (was.face, glyph) at c.in_err-units.ensures.exact in
    let stops = found_stops found (glyph_of_unit face.cmap) (all_found found gs) c.loop-unit.unit-iterator _ c.in-Some.unit e was.tested
    c.in-Some.ensures.steps fails in
    rw (p.1, p.2) (untested_lines face c.args.text.now e (rw (tested_by face t gs c.requires was.there) stops))

pub returns-in_err-units-clause-defects : goal.returns-in_err-units-clause-defects
returns-in_err-units-clause-defects c =
    let p = err_from_is_err_and c.from_residual-in_err-units.result c.from_residual-in_err-units.ensures.1 in
    let face = c.args.face.now in
    let was = c.loop-unit.invariant in
    let t = c.loop-unit.found.tables in
    let gs = text_glyphs face.cmap c.args.text.now in
    let e = c.in_err-units.field-0.0 in
    let found = glyph_units face.instance face.metrics t in
    let glyph = glyph_is (goal.at.returns-in_err-units-clause-defects c).After-glyph_of_unit-number in
    let fails = rw (was.face, glyph) at c.in_err-units.ensures.exact in
    let stops = found_stops found (glyph_of_unit face.cmap) (all_found found gs) c.loop-unit.unit-iterator _ c.in-Some.unit e was.tested
    c.in-Some.ensures.steps fails in
    rw (p.1, p.2) (test_tells face t gs e c.requires was.there stops)

-- all advances are found
tested_then : (c : In-None) → advances_tested c.args.face.now (text_glyphs c.args.face.now.cmap c.args.text.now) ≡ Ok tt
tested_then c =
    let face = c.args.face.now in
    let was = c.loop-unit.invariant in
    let t = c.loop-unit.found.tables in
    let gs = text_glyphs face.cmap c.args.text.now in
    let found = glyph_units face.instance face.metrics t in
    tested_by face t gs c.requires was.there
    ∙ none_left found (glyph_of_unit face.cmap) (all_found found gs) c.loop-unit.unit-iterator was.tested c.in-None.ensures.steps.0

pub returns-clause-exact : goal.returns-clause-exact
returns-clause-exact c =
    let face = c.args.face.now in
    let us = units_by face.cmap (chars c.args.text.now) in
    let all = at-the-end c.loop-unit.yielded c.loop-unit.unit-iterator us c.in-None.ensures.steps.0 c.loop-unit.invariant.split in
    tested_lines face c.args.text.now c.loop-unit.lines.items (tested_then (goal.at.returns-clause-exact c).In-None)
    (rw (← all) c.loop-unit.invariant.lines)

pub returns-clause-defects : goal.returns-clause-defects
returns-clause-defects c =
    let face = c.args.face.now in
    found_whole face (text_glyphs face.cmap c.args.text.now) (tested_then (goal.at.returns-clause-defects c).In-None)
