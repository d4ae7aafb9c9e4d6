use Rattle.std.proofs.Common.{◌≡◌, ◌∙◌, sym}
use Rattle.tt_line.specs.Layout.{text_glyphs}
use Rattle.tt_line.proofs.Stepped.{no_tables}
use Rattle.tt_line.proofs.StepSums.{unkerned_sum}
use Rattle.tt_line.proofs.sums.sum_of_text.Goals as goal

pub returns-clause-exact : goal.returns-clause-exact
returns-clause-exact c =
    let none = no_tables c.args.known.now.metrics.kerning (rw c.metrics.ensures at c.if-has_kerning.ensures) in
    c.sum_of_advances.ensures.exact
    ∙ sym (unkerned_sum c.args.known.now.metrics c.args.known.now.ppem (text_glyphs c.args.known.now.cmap c.args.text.now) none)
