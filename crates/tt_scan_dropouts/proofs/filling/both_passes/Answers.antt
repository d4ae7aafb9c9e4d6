use Rattle.std.proofs.Common.{◌≡◌, refl, ℤ, true, map, ◌∙◌}
use Rattle.tt_scan_gaps.specs.Seen.{turned_round}
use Rattle.tt_scan_dropouts.specs.Windows.{is_black_by}
use Rattle.tt_scan_gaps.specs.declared.seen.Over.TheVariants as over
use Rattle.tt_scan_dropouts.proofs.NoFreeGap.{still_none}
use Rattle.tt_scan_dropouts.proofs.Outlines.{turned_at}
use Rattle.tt_scan_dropouts.proofs.filling.both_passes.Goals as goal

pub added_turned-requires : goal.added_turned-requires
added_turned-requires c = λ none.
    let before = c.args.ink.now in
    let after = c.blacken_all.new.self in
    let kept : (p j : ℤ) → is_black_by over.Columns before p j ≡ true → is_black_by over.Columns after p j ≡ true =
    λ p j black. c.blacken_all.ensures.black j p ∙ rw black refl in
    still_none c.args.glyph.rules.rules.stubs (is_black_by over.Columns before) (is_black_by over.Columns after)
    (map turned_round c.contours-contours.result.edges.now) kept (rw c.contours-contours.ensures.edges (c.requires.columns none))

pub returns-clause-rows : goal.returns-clause-rows
returns-clause-rows c =
    simp (c.contours-contours.ensures.edges, c.contours-contours.ensures.ends, c.pixels_in.ensures.columns) at c.in_ok-by_rows.ensures

pub returns-clause-columns : goal.returns-clause-columns
returns-clause-columns c =
    let es = c.args.glyph.tape.now.edges in
    simp (c.contours-contours.ensures.edges, c.contours-contours.ensures.ends, c.pixels_in.ensures.rows, turned_at es c.args.glyph.ends.now)
    at c.in_ok-by_columns.ensures
