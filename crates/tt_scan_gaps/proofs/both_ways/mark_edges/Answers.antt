use Rattle.std.proofs.Common.{sym, subst, ◌∙◌, get_or, pos, map, take, ◌≤◌, arith}
use Rattle.tt_scan_edges.specs.declared.edge.Edge.{Edge}
use Rattle.tt_scan_gaps.specs.BothWays.{AreTold, is_black_seen}
use Rattle.tt_scan_gaps.specs.Seen.{seen_by}
use Rattle.tt_scan_gaps.specs.declared.seen.Over.TheVariants as over
use Rattle.tt_scan_gaps.proofs.Ways.{more_seen, none_more}
use Rattle.tt_scan_gaps.proofs.both_ways.mark_edges.Goals as goal
use Rattle.tt_scan_gaps.proofs.both_ways.mark_edges.Goals.{else-meets-via-then-meets+else-mark_met, else-meets-via-else-meets, else-meets-2-via-then-meets-2+else-mark_met-2, else-meets-2-via-else-meets-2}

pub loop-edge-init : goal.loop-edge-init
loop-edge-init c = record {
  rows = record { up = λ j c some. absurd cc; down = λ j c some. absurd cc; none = λ j c two. absurd cc };
  columns = record { up = λ j c some. absurd cc; down = λ j c some. absurd cc; none = λ j c two. absurd cc };
  fewer = omega arith;
}

abbrev none : Edge
none = record { ax = pos 0; ay = pos 0; bx = pos 0; by = pos 0 }

pub loop-edge-preserved : goal.loop-edge-preserved
loop-edge-preserved c =
    let es = c.args.edges.now in
    let i = c.loop-edge.edge-index in
    let e = get_or es i none in
    let so_far = c.loop-edge.invariant in
    let seen = take i es in
    let across = more_seen (seen_by over.Rows) es i none c.loop-edge-test.true in
    let along = more_seen (seen_by over.Columns) es i none c.loop-edge-test.true in
    record {
      rows = subst (λ xs. AreTold (is_black_seen over.Rows es) xs c.else-meets.row_rising c.else-meets.row_falling)
          (sym across) (elim c.else-meets.branch [
            | else-meets-via-then-meets+else-mark_met w ↦ rw (w.row_rising-is, w.row_falling-is)
                (w.mark_met.ensures.told w.if-mark_met.false (map (seen_by over.Rows) seen) so_far.rows)
            | else-meets-via-else-meets w ↦ rw (w.row_rising-is, w.row_falling-is)
                (none_more (is_black_seen over.Rows es) (map (seen_by over.Rows) seen) (seen_by over.Rows e)
                c.loop-edge.row_rising c.loop-edge.row_falling (sym c.meets.ensures ∙ w.if-meets.false) so_far.rows)
          ]);
      columns = subst (λ xs. AreTold (is_black_seen over.Columns es) xs
          c.else-meets-2.column_rising c.else-meets-2.column_falling)
          (sym along) (elim c.else-meets-2.branch [
            | else-meets-2-via-then-meets-2+else-mark_met-2 w ↦ rw (w.column_rising-is, w.column_falling-is)
                (w.mark_met-then-meets-2.ensures.told w.if-mark_met-2.false (map (seen_by over.Columns) seen) so_far.columns)
            | else-meets-2-via-else-meets-2 w ↦ rw (w.column_rising-is, w.column_falling-is)
                (none_more (is_black_seen over.Columns es) (map (seen_by over.Columns) seen) (seen_by over.Columns e)
                c.loop-edge.column_rising c.loop-edge.column_falling
                (sym c.meets-in-loop-edge.ensures ∙ w.if-meets-2.false) so_far.columns)
          ]);
      fewer =
          let first : c.else-meets.looks ≤ c.loop-edge.looks = elim c.else-meets.branch [
            | else-meets-via-then-meets+else-mark_met w ↦ rw w.looks-is w.mark_met.ensures.fewer
            | else-meets-via-else-meets w ↦ rw w.looks-is (omega arith)
          ] in
          let then_too : c.else-meets-2.looks ≤ c.else-meets.looks = elim c.else-meets-2.branch [
            | else-meets-2-via-then-meets-2+else-mark_met-2 w ↦ rw w.looks-is w.mark_met-then-meets-2.ensures.fewer
            | else-meets-2-via-else-meets-2 w ↦ rw w.looks-is (omega arith)
          ] in
          omega (arith, so_far.fewer, first, then_too);
    }
