use Rattle.std.proofs.Common.{◌≡◌, ◌&&◌, ℤ, false, map, sym, ◌∙◌, arith}
use Rattle.tt_scan.specs.Contours.{contours_at}
use Rattle.tt_scan_dropouts.specs.Dropouts.{columns_of_rules, rows_of_rules}
use Rattle.tt_scan_dropouts.specs.Windows.{box_has, has, is_black_by, widened}
use Rattle.tt_scan_dropouts.specs.Seen.{is_black_on}
use Rattle.tt_scan_gaps.specs.Seen.{turned_round}
use Rattle.tt_scan_gaps.specs.declared.seen.Over.TheVariants as over
use Rattle.tt_scan_dropouts.proofs.Clips.{clipped_alike, clipped_away, part_fits}
use Rattle.tt_scan_dropouts.proofs.Inked.{painted_more}
use Rattle.tt_scan_dropouts.proofs.NoFreeGap.{still_none}
use Rattle.tt_scan_dropouts.proofs.Outlines.{edges_at}
use Rattle.tt_scan_dropouts.proofs.filling.dropouts_beside.Goals as goal

pub returns-in-None : goal.returns-in-None
returns-in-None c =
    let es = c.args.glyph.tape.now.edges in
    let across = columns_of_rules c.args.glyph.rules in
    let up = rows_of_rules c.args.glyph.rules in
    let none : (p j : ℤ) → (has c.args.window p j && box_has across up p j) ≡ false =
    simp (c.pixels_reached.ensures.columns, c.pixels_reached.ensures.rows) at c.in-None.ensures.none in
    record {
      exact = λ col row. rw c.new-found.ensures.items (sym (clipped_away c.args.glyph.rules (contours_at es c.args.glyph.ends.now)
          c.args.window col row (rw (edges_at es c.args.glyph.ends.now c.args.glyph.are_ends) c.args.glyph.boxed.held) (none col row)));
    }

pub widened-requires-clause-fits : goal.widened-requires-clause-fits
widened-requires-clause-fits c = part_fits c.in-Some.part c.in-Some.ensures.near (omega (arith, c.if-part-gt-BAND_ROWS.false))

pub painted-requires : goal.painted-requires
painted-requires c = record {
  window = rw c.widened.ensures (part_fits c.in-Some.part c.in-Some.ensures.near (omega (arith, c.if-part-gt-BAND_ROWS.false)));
}

pub push_found-requires-clause-rows : goal.push_found-requires-clause-rows
push_found-requires-clause-rows c = λ none.
    let more = painted_more c.in_ok-ink.ink c.args.inked.now (widened 5 c.in-Some.part)
    (rw c.widened.ensures at c.in_ok-ink.ensures.window) (λ k j inside. c.in_ok-ink.ensures.black k j (rw c.widened.ensures inside)) in
    still_none c.args.glyph.rules.rules.stubs (is_black_on over.Rows c.args.inked.now) (is_black_by over.Rows c.in_ok-ink.ink)
    c.args.glyph.tape.now.edges (λ k j there. more k j there) (c.requires.rows none)

pub push_found-requires-clause-columns : goal.push_found-requires-clause-columns
push_found-requires-clause-columns c = λ none.
    let more = painted_more c.in_ok-ink.ink c.args.inked.now (widened 5 c.in-Some.part)
    (rw c.widened.ensures at c.in_ok-ink.ensures.window) (λ k j inside. c.in_ok-ink.ensures.black k j (rw c.widened.ensures inside)) in
    still_none c.args.glyph.rules.rules.stubs (is_black_on over.Columns c.args.inked.now) (is_black_by over.Columns c.in_ok-ink.ink)
    (map turned_round c.args.glyph.tape.now.edges) (λ k j there. more j k there) (c.requires.columns none)

pub push_found-requires-clause-ink : goal.push_found-requires-clause-ink
push_found-requires-clause-ink c = λ k j inside.
    c.in_ok-ink.ensures.black k j (rw c.widened.ensures inside) ∙ c.requires.inked k j

pub returns : goal.returns
returns c =
    let glyph = c.args.glyph in
    let es = glyph.tape.now.edges in
    let part = c.in-Some.part in
    let cut : (p j : ℤ) → has part p j ≡ (has c.args.window p j && box_has (columns_of_rules glyph.rules) (rows_of_rules glyph.rules) p j) =
    simp (c.pixels_reached.ensures.columns, c.pixels_reached.ensures.rows) at c.in-Some.ensures.some in
    record {
      exact = λ col row. rw c.new-found.ensures.items at (c.in_ok-push_found.ensures col row)
          ∙ clipped_alike glyph.rules (contours_at es glyph.ends.now) c.args.window part col row
          (rw (edges_at es glyph.ends.now glyph.are_ends) glyph.boxed.held) (cut col row);
    }
