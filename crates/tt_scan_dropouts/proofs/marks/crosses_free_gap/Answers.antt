use Rattle.std.proofs.Common.{◌<◌, sym, ◌∙◌, SFits, w64, arith}
use Rattle.std.proofs.lemmas.Int.{ints, to_z-of_z}
use Rattle.tt_scan_gaps.specs.Crossings.{lines_crossed}
use Rattle.tt_scan_dropouts.specs.Windows.{is_black_by}
use Rattle.tt_scan_dropouts.proofs.NoFreeGap.{none_more, one_settles}
use Rattle.tt_scan_dropouts.proofs.marks.crosses_free_gap.Goals as goal

pub returns-then-is_free : goal.returns-then-is_free
returns-then-is_free c =
    let black = is_black_by c.args.over c.args.ink.now in
    let within : c.loop-k.k < lines_crossed c.args.edge =
    rw (← c.lines_crossed-k-end.ensures.exact) c.loop-k-test.true in
    let gap : SFits w64 c.gap_crossed-in-loop-k.result = omega (arith, ints, c.gap_crossed-in-loop-k.ensures.small) in
    let line : SFits w64 c.line_crossed-in-loop-k.result = omega (arith, ints, c.line_crossed-in-loop-k.ensures.small) in
    let free = rw (c.gap_crossed-in-loop-k.ensures.exact, c.line_crossed-in-loop-k.ensures.exact) at (simp to_z-of_z at (sym c.is_free-in-loop-k.ensures ∙ c.if-is_free.true)) in
    sym (one_settles black c.args.edge c.loop-k.k within free)

pub loop-k-preserved : goal.loop-k-preserved
loop-k-preserved c =
    let black = is_black_by c.args.over c.args.ink.now in
    let gap : SFits w64 c.gap_crossed-in-loop-k.result = omega (arith, ints, c.gap_crossed-in-loop-k.ensures.small) in
    let line : SFits w64 c.line_crossed-in-loop-k.result = omega (arith, ints, c.line_crossed-in-loop-k.ensures.small) in
    let out = rw (c.gap_crossed-in-loop-k.ensures.exact, c.line_crossed-in-loop-k.ensures.exact) at (simp to_z-of_z at (sym c.is_free-in-loop-k.ensures ∙ c.if-is_free.false)) in
    none_more black c.args.edge c.loop-k.k c.loop-k.invariant out
