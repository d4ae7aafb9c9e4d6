use Rattle.std.proofs.Common.{◌∙◌, flat_map, string_bytes, arith}
use Rattle.std.proofs.lemmas.List.{append-nil, at_drop_all}
use Rattle.tt_render_texts.specs.Reports.{lacking_told}
use Rattle.tt_render_texts.proofs.TextsReports.{text_behind}
use Rattle.tt_render_texts.proofs.texts_messages.Messages.push_lacking.Goals as goal

pub loop-c-preserved : goal.loop-c-preserved
loop-c-preserved c =
    rw (c.in_ok-push_str.ensures.bytes, c.deref.ensures, c.in_ok-character_line.ensures)
    (text_behind (lacking_told c.args.self.number) c.args.lacking.now c.loop-c.c-index c.c-item.result
    (string_bytes c.loop-c.text) c.loop-c-test.true c.c-item.is ∙ c.loop-c.invariant)

pub returns-clause-exact : goal.returns-clause-exact
returns-clause-exact c =
    let told = flat_map (lacking_told c.args.self.number) in
    let none = at_drop_all told c.args.lacking.now c.loop-c.c-index (omega arith) in
    rw (← append-nil (string_bytes c.loop-c.text)) (rw none at c.loop-c.invariant)
