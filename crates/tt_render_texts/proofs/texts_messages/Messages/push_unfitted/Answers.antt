use Rattle.std.proofs.Common.{◌∙◌, flat_map, string_bytes, arith}
use Rattle.std.proofs.lemmas.List.{append-nil, at_drop_all}
use Rattle.tt_render_texts.specs.Reports.{unfitted_told}
use Rattle.tt_render_texts.proofs.TextsReports.{text_behind}
use Rattle.tt_render_texts.proofs.texts_messages.Messages.push_unfitted.Goals as goal

pub loop-entry-preserved : goal.loop-entry-preserved
loop-entry-preserved c =
    rw (c.in_ok-push_str.ensures.bytes, c.deref.ensures, c.in_ok-glyph_line.ensures)
    (text_behind (unfitted_told c.args.self.number) c.args.unfitted.now c.loop-entry.entry-index c.entry-item.result
    (string_bytes c.loop-entry.text) c.loop-entry-test.true c.entry-item.is ∙ c.loop-entry.invariant)

pub returns-clause-exact : goal.returns-clause-exact
returns-clause-exact c =
    let told = flat_map (unfitted_told c.args.self.number) in
    let none = at_drop_all told c.args.unfitted.now c.loop-entry.entry-index (omega arith) in
    rw (← append-nil (string_bytes c.loop-entry.text)) (rw none at c.loop-entry.invariant)
