use Rattle.std.proofs.Common.{refl}
use Rattle.tt_advances.proofs.Advances.{plain_advances, plain_sound}
use Rattle.tt_advances.specs.Lines.{advance_step}
use Rattle.tt_label.proofs.FoundLines.{rows_alike}
use Rattle.tt_label.proofs.UnitGlyphs.{its_units}
use Rattle.tt_label_rows.specs.Units.{all_glyphs}
use Rattle.tt_line.specs.Steps.{step_in_pixels}
use Rattle.tt_label.proofs.finding.row_units.Goals as goal

pub found_rows-requires-clause-finds : goal.found_rows-requires-clause-finds
found_rows-requires-clause-finds c = rw c.finds_advances.ensures at c.if-finds_advances.true

-- where no advance is found, the steps are those of the tables
pub returns-clause-exact : goal.returns-clause-exact
returns-clause-exact c =
    let z = c.args.source.now in
    let face = z.face.now in
    let lines = its_units c.args.lines.now in
    let plain = plain_advances face (rw c.finds_advances.ensures at c.if-finds_advances.false) in
    let made = rw c.metrics.ensures at c.in_ok-stepped_lines.ensures in
    rw (
      made,
      plain.tested (all_glyphs lines),
      rows_alike face.metrics (advance_step face z.ppem) (step_in_pixels face.metrics z.ppem) lines (plain.step z.ppem),
    ) refl

pub returns-clause-defects : goal.returns-clause-defects
returns-clause-defects c =
    plain_sound c.args.source.now.face.now (all_glyphs (its_units c.args.lines.now)) (rw c.finds_advances.ensures at c.if-finds_advances.false)
