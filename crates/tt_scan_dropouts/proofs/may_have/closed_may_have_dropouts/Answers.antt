use Rattle.std.proofs.Common.{◌≡◌, true, false, sym, ◌∙◌, map}
use Rattle.std.specs.List.{list_any}
use Rattle.tt_scan_gaps.specs.BothWays.{NoneFreeBothWays, is_black_seen}
use Rattle.tt_scan_gaps.specs.Crossings.{has_end_on_line}
use Rattle.tt_scan_gaps.specs.Seen.{turned_round}
use Rattle.tt_scan_gaps.specs.declared.seen.Over.TheVariants as over
use Rattle.tt_scan_dropouts.proofs.NoDropouts.{no_dropout}
use Rattle.tt_scan_gaps.proofs.Ways.{seen_by_columns, seen_by_rows}
use Rattle.tt_scan_dropouts.proofs.may_have.closed_may_have_dropouts.Goals as goal

pub returns : goal.returns
returns c = λ last rules same_stubs same_dots k j.
    let es = c.args.contours.edges.now in
    let rows : NoneFreeBothWays (is_black_seen over.Rows es) es = rw seen_by_rows at (c.may_cross_both_ways.ensures.rows last) in
    let columns : NoneFreeBothWays (is_black_seen over.Columns es) (map turned_round es) =
    rw seen_by_columns at (c.may_cross_both_ways.ensures.columns last) in
    let off : rules.rules.stubs ≡ true → list_any has_end_on_line es ≡ false = λ stubs. elim c.else-rules.branch [
      | goal.else-rules-via-then-rules+else-some_end_on_line w ↦ sym w.some_end_on_line.ensures ∙ w.if-some_end_on_line.false
      | goal.else-rules-via-else-rules w ↦ let bad : true ≡ false = sym stubs ∙ same_stubs ∙ w.if-rules.false in absurd cc
    ] in
    no_dropout rules es c.args.contours.ends.now c.args.contours.are_ends c.requires rows columns off
    (λ dots. c.may_have_dots.ensures c.if-may_have_dots.false (sym same_dots ∙ dots)) k j
