use Rattle.std.proofs.Common.{◌≡◌, ◌∙◌, ◌+◌, ◌<◌, ◌≤◌, ℕ, true, List, ◌∷◌, Vec, Global, Ok, drop, get_or, length, map, refl, sym, take, arith}
use Rattle.std.proofs.lemmas.List.{drop_all, drop_more, map_push, take_all, take_more}
use Rattle.std.proofs.lemmas.Result.{err_from_is_err_and}
use Rattle.tt_advances.proofs.Advances.{found_whole}
use Rattle.tt_advances.proofs.Finding.{after_test, before_value, lists_pass, lists_stop, tables_refuse, tables_tell, test_tells, tested_by, then_value}
use Rattle.tt_advances.specs.Found.{advances_tested, all_found, glyph_units}
use Rattle.tt_advances.specs.Lines.{advance_step}
use Rattle.tt_face.specs.Faces.{Face, finds_advances, glyphs_in}
use Rattle.tt_glyf.specs.Loca.{Glyf}
use Rattle.tt_label.proofs.FoundLines.{row_alike}
use Rattle.tt_label.proofs.UnitGlyphs.{its_units}
use Rattle.tt_label_rows.specs.Units.{all_glyphs, stepped_units, unit_glyphs}
use Rattle.tt_rows.specs.declared.unit.RowUnit.{RowUnit}
use Rattle.tt_label.proofs.finding.found_rows.Goals as goal

abbrev Row : Type 0
Row = Vec RowUnit Global

-- the line that is next
next_is : (lines : List Row) (i : ℕ) (line : Row) → i < length lines → line ≡ get_or lines i line
    → its_units (drop i lines) ≡ line.items ∷ its_units (drop (i + 1) lines)
next_is lines i line below is =
    let here : get_or lines i line ≡ line = sym is in rw (drop_more lines i line below, here) refl

pub found_row-requires-clause-metrics : goal.found_row-requires-clause-metrics
found_row-requires-clause-metrics c = rw (c.metrics.ensures, c.loop-line.invariant.face) refl

pub found_row-requires-clause-known : goal.found_row-requires-clause-known
found_row-requires-clause-known c =
    let i = c.loop-line.line-index in
    let line = c.line-item.result in
    let here : get_or c.args.lines.now i line ≡ line = sym c.line-item.is in
    rw (c.metrics.ensures, c.deref.ensures.value) (rw here at (c.requires.known i line c.loop-line-test.true))

pub loop-line-preserved : goal.loop-line-preserved
loop-line-preserved c =
    let at = c.loop-line in
    let was = at.invariant in
    let face = c.args.face.now in
    let lines = c.args.lines.now in
    let i = at.line-index in
    let line = c.line-item.result in
    let here : get_or lines i line ≡ line = sym c.line-item.is in
    let below : i < length lines = c.loop-line-test.true in
    let made = c.in_ok-found_row.field-0 in
    let its : Row → List RowUnit = λ v. v.items in
    let gs = unit_glyphs line.items in
    let step = stepped_units face.metrics (advance_step face c.args.ppem) in
    let found = glyph_units face.instance face.metrics at.found.tables in
    let next = next_is lines i line below c.line-item.is in
    let passes = after_test (all_found found gs) _ made.items (rw (was.face, c.deref.ensures.value) at c.in_ok-found_row.ensures.exact) in
    let own : made.items ≡ step line.items = passes.1 ∙ row_alike face at.found.tables c.args.ppem line.items was.there in
    rw c.in_ok-found_row.ensures.same (record {
      face = was.face;
      there = was.there;
      made = rw (
        c.in_ok-push.ensures.items,
        map_push its at.made.items made,
        was.made,
        own,
        take_more lines i line below,
        here,
        map_push its (take i lines) line,
        map_push step (map its (take i lines)) line.items,
      ) refl;
      tested = lists_pass found (all_found found (all_glyphs (its_units lines))) (all_glyphs (its_units (drop i lines))) gs
          (all_glyphs (its_units (drop (i + 1) lines))) was.tested (rw next refl) passes.0;
    })

pub returns-in_err-found-clause-exact : goal.returns-in_err-found-clause-exact
returns-in_err-found-clause-exact c =
    let p = err_from_is_err_and c.from_residual.result c.from_residual.ensures.1 in
    let face = c.args.face.now in
    let gs = all_glyphs (its_units c.args.lines.now) in
    rw (p.1, p.2) (then_value (advances_tested face gs) _ c.in_err-found.field-0.0
    (tables_refuse face gs c.in_err-found.field-0.0 c.requires.finds c.in_err-found.ensures.tables))

pub returns-in_err-found-clause-defects : goal.returns-in_err-found-clause-defects
returns-in_err-found-clause-defects c =
    let p = err_from_is_err_and c.from_residual.result c.from_residual.ensures.1 in
    rw (p.1, p.2) (tables_tell c.args.face.now (all_glyphs (its_units c.args.lines.now)) c.in_err-found.field-0.0 c.requires.finds c.in_err-found.ensures.fault)

pub returns-in_err-found_row-clause-exact : goal.returns-in_err-found_row-clause-exact
returns-in_err-found_row-clause-exact c =
    let p = err_from_is_err_and c.from_residual-in_err-found_row.result c.from_residual-in_err-found_row.ensures.1 in
    let at = c.loop-line in
    let was = at.invariant in
    let face = c.args.face.now in
    let lines = c.args.lines.now in
    let all = all_glyphs (its_units lines) in
    let found = glyph_units face.instance face.metrics at.found.tables in
    let gs = unit_glyphs c.line-item.result.items in
    let e = c.in_err-found_row.field-0.0 in
    let next = next_is lines at.line-index c.line-item.result c.loop-line-test.true c.line-item.is in
    let one = before_value (all_found found gs) _ e (rw (was.face, c.deref.ensures.value) at c.in_err-found_row.ensures.exact) in
    let stops = lists_stop found (all_found found all) (all_glyphs (its_units (drop at.line-index lines))) gs
    (all_glyphs (its_units (drop (at.line-index + 1) lines))) e was.tested (rw next refl) one in
    rw (p.1, p.2) (then_value (advances_tested face all) _ e (rw (tested_by face at.found.tables all c.requires.finds was.there) stops))

pub returns-in_err-found_row-clause-defects : goal.returns-in_err-found_row-clause-defects
returns-in_err-found_row-clause-defects c =
    let p = err_from_is_err_and c.from_residual-in_err-found_row.result c.from_residual-in_err-found_row.ensures.1 in
    let at = c.loop-line in
    let was = at.invariant in
    let face = c.args.face.now in
    let lines = c.args.lines.now in
    let all = all_glyphs (its_units lines) in
    let found = glyph_units face.instance face.metrics at.found.tables in
    let gs = unit_glyphs c.line-item.result.items in
    let e = c.in_err-found_row.field-0.0 in
    let next = next_is lines at.line-index c.line-item.result c.loop-line-test.true c.line-item.is in
    let one = before_value (all_found found gs) _ e (rw (was.face, c.deref.ensures.value) at c.in_err-found_row.ensures.exact) in
    let stops = lists_stop found (all_found found all) (all_glyphs (its_units (drop at.line-index lines))) gs
    (all_glyphs (its_units (drop (at.line-index + 1) lines))) e was.tested (rw next refl) one in
    rw (p.1, p.2) (test_tells face at.found.tables all e c.requires.finds was.there stops)

-- all advances are found
tested_all : (face : Face) (t : Glyf) (lines : List Row) (i : ℕ) → finds_advances face ≡ true → glyphs_in face ≡ Ok t → length lines ≤ i
    → all_found (glyph_units face.instance face.metrics t) (all_glyphs (its_units lines))
    ≡ all_found (glyph_units face.instance face.metrics t) (all_glyphs (its_units (drop i lines)))
    → advances_tested face (all_glyphs (its_units lines)) ≡ Ok tt
tested_all face t lines i finds there over tested =
    tested_by face t (all_glyphs (its_units lines)) finds there ∙ rw (drop_all i lines over) at tested

pub returns-clause-exact : goal.returns-clause-exact
returns-clause-exact c =
    let at = c.loop-line in
    let lines = c.args.lines.now in
    let over : length lines ≤ at.line-index = omega (arith, c.loop-line-test.false) in
    let made = rw (take_all at.line-index lines over) at at.invariant.made in
    rw (tested_all c.args.face.now at.found.tables lines at.line-index c.requires.finds at.invariant.there over at.invariant.tested, made) refl

pub returns-clause-defects : goal.returns-clause-defects
returns-clause-defects c =
    let at = c.loop-line in
    let lines = c.args.lines.now in
    let over : length lines ≤ at.line-index = omega (arith, c.loop-line-test.false) in
    found_whole c.args.face.now (all_glyphs (its_units lines))
    (tested_all c.args.face.now at.found.tables lines at.line-index c.requires.finds at.invariant.there over at.invariant.tested)
