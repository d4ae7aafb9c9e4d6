use Rattle.std.proofs.Common.{◌∙◌, true, false}
use Rattle.tt_scan_gaps.specs.Seen.{turned_round}
use Rattle.tt_scan_dropouts.specs.Rising.{is_tested}
use Rattle.tt_scan_dropouts.specs.Seen.{is_black_on}
use Rattle.tt_scan_gaps.specs.declared.seen.Over.TheVariants as over
use Rattle.tt_glyph_pixels.proofs.Tested.{any_mapped}
use Rattle.tt_glyph_pixels.proofs.rising.some_tested.Goals as goal

pub returns-then-stubs-clause-rows : goal.returns-then-stubs-clause-rows
returns-then-stubs-clause-rows c = rw c.if-stubs.true c.some_tested_over-rows.ensures

pub returns-then-stubs-clause-columns : goal.returns-then-stubs-clause-columns
returns-then-stubs-clause-columns c =
    rw c.if-stubs.true (c.some_tested_over.ensures
    ∙ any_mapped (is_tested true (is_black_on over.Columns c.args.inked.now)) turned_round c.args.edges.now)

pub returns-clause-rows : goal.returns-clause-rows
returns-clause-rows c = rw c.if-stubs.false c.some_tested_over-rows-2.ensures

pub returns-clause-columns : goal.returns-clause-columns
returns-clause-columns c =
    rw c.if-stubs.false (c.some_tested_over-2.ensures
    ∙ any_mapped (is_tested false (is_black_on over.Columns c.args.inked.now)) turned_round c.args.edges.now)
