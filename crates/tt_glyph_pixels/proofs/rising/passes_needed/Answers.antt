use Rattle.std.proofs.Common.{sym, ◌∙◌}
use Rattle.tt_bitmap.specs.Bitmaps as bitmaps
use Rattle.tt_scan_dropouts.proofs.NoDropouts.{no_dropout_marked}
use Rattle.tt_glyph_pixels.proofs.Tested.{none_by_columns, none_by_rows}
use Rattle.tt_glyph_pixels.proofs.rising.passes_needed.Goals as goal

pub returns-then-rows-clause-rows : goal.returns-then-rows-clause-rows
returns-then-rows-clause-rows c = λ none.
    let glyph = c.args.glyph in
    none_by_rows glyph.rules.rules.stubs c.args.inked.now glyph.tape.now.edges c.requires.inked
    (sym (rw c.lend-edges.ensures.exact at c.some_tested-rows.ensures.rows) ∙ none)

pub returns-then-rows-clause-columns : goal.returns-then-rows-clause-columns
returns-then-rows-clause-columns c = λ none.
    let glyph = c.args.glyph in
    none_by_columns glyph.rules.rules.stubs c.args.inked.now glyph.tape.now.edges glyph.ends.now c.requires.inked glyph.are_ends c.requires.closed
    (sym (rw c.lend-edges.ensures.exact at c.some_tested-rows.ensures.columns) ∙ none)

pub returns-then-may_have_dots-clause-rows : goal.returns-then-may_have_dots-clause-rows
returns-then-may_have_dots-clause-rows c = λ none.
    let glyph = c.args.glyph in
    none_by_rows glyph.rules.rules.stubs c.args.inked.now glyph.tape.now.edges c.requires.inked
    (sym (rw c.lend-edges.ensures.exact at c.some_tested-rows.ensures.rows) ∙ none)

pub returns-then-may_have_dots-clause-columns : goal.returns-then-may_have_dots-clause-columns
returns-then-may_have_dots-clause-columns c = λ none.
    let glyph = c.args.glyph in
    none_by_columns glyph.rules.rules.stubs c.args.inked.now glyph.tape.now.edges glyph.ends.now c.requires.inked glyph.are_ends c.requires.closed
    (sym (rw c.lend-edges.ensures.exact at c.some_tested-rows.ensures.columns) ∙ none)

pub returns-clause-none : goal.returns-clause-none
returns-clause-none c =
    let glyph = c.args.glyph in
    let es = glyph.tape.now.edges in
    let ends = glyph.ends.now in
    let tested = rw c.lend-edges.ensures.exact at c.some_tested-rows.ensures in
    no_dropout_marked glyph.rules es ends (bitmaps.is_black c.args.inked.now) glyph.are_ends c.requires.inked
    (none_by_rows glyph.rules.rules.stubs c.args.inked.now es c.requires.inked (sym tested.rows ∙ c.if-rows.false))
    (none_by_columns glyph.rules.rules.stubs c.args.inked.now es ends c.requires.inked glyph.are_ends c.requires.closed
    (sym tested.columns ∙ c.if-columns.false))
    (rw c.lend-edges.ensures.exact at (c.may_have_dots.ensures c.if-may_have_dots.false))
