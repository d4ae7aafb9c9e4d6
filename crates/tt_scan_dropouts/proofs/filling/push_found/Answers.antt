use Rattle.std.proofs.Common.{◌≡◌, ℤ, true, ap, sym, ◌∙◌}
use Rattle.std.proofs.lemmas.Result.{on_ok_weaker}
use Rattle.tt_scan.specs.Contours.{contours_at}
use Rattle.tt_scan_edges.specs.Winding.{is_black}
use Rattle.tt_scan_gaps.specs.Crossings.{centre}
use Rattle.tt_scan_dropouts.specs.Dropouts.{is_inked}
use Rattle.tt_scan_dropouts.specs.Passes.{has_pixel}
use Rattle.tt_scan_dropouts.specs.Windows.{has, is_black_in, widened}
use Rattle.tt_scan_dropouts.proofs.Outlines.{edges_at}
use Rattle.tt_scan_dropouts.proofs.Together.{Passes, all_together, wider}
use Rattle.tt_scan_dropouts.proofs.filling.push_found.Goals as goal

pub both_passes-requires-clause-rows : goal.both_passes-requires-clause-rows
both_passes-requires-clause-rows c = c.requires.rows

pub both_passes-requires-clause-columns : goal.both_passes-requires-clause-columns
both_passes-requires-clause-columns c = c.requires.columns

pub returns : goal.returns
returns c =
    let glyph = c.args.glyph in
    let band = c.args.band in
    let es = glyph.tape.now.edges in
    let ends = glyph.ends.now in
    let contours = contours_at es ends in
    let inked = is_black_in c.args.ink.now in
    let exact : (p j : ℤ) → has (widened 5 band) p j ≡ true → inked p j ≡ is_inked contours p j = λ p j inside.
    c.requires.ink p j inside
    ∙ ap (λ all. is_black all (centre p) (centre j)) (sym (edges_at es ends glyph.are_ends)) in
    let by_rows = has_pixel c.in_ok-by_rows.by_rows.items in
    let by_columns = has_pixel c.in_ok-by_rows.by_columns.items in
    let passes : Passes glyph.rules contours band inked (is_black_in c.both_passes.new.ink) by_rows by_columns = record {
      held = rw (edges_at es ends glyph.are_ends) glyph.boxed.held;
      ink = λ p j inside near. exact p j inside;
      by_rows = c.in_ok-by_rows.ensures.rows;
      also = c.in_ok-by_rows.ensures.also;
      by_columns = c.in_ok-by_rows.ensures.columns;
    } in
    on_ok_weaker c.push_within-2.result (λ last. λ col row. rw (
      last col row,
      c.in_ok-push_within.ensures col row,
      c.in_ok-push_dots.ensures col row,
      c.deref.ensures.value,
      c.deref-2.ensures.value,
    ) (all_together passes (λ p j inside. exact p j (wider 5 band p j inside)) (has_pixel c.args.found.now.items col row) col row))
    c.push_within-2.ensures
