use Rattle.std.proofs.Common.{sym, ◌∙◌}
use Rattle.tt_glyf.proofs.Headers.{no-components, components-read, components-unread}
use Rattle.tt_glyf.proofs.glyf.Glyf.components.Goals as goal

pub returns-then-not-is_composite-clause-exact : goal.returns-then-not-is_composite-clause-exact
returns-then-not-is_composite-clause-exact c =
    let tells = sym c.is_composite.ensures ∙ c.if-not-is_composite.true in
    c.new.ensures.items ∙ sym (no-components c.args.self.now c.args.g tells)

pub returns-in-Ok-clause-exact : goal.returns-in-Ok-clause-exact
returns-in-Ok-clause-exact c =
    c.records_in.ensures ∙ sym (components-read c.args.self.now c.args.g c.in-Ok.raw c.in-Ok.ensures.exact)

pub returns-in-Err-Font-clause-exact : goal.returns-in-Err-Font-clause-exact
returns-in-Err-Font-clause-exact c =
    let unread = rw c.in-Err-Font.field-0-is at c.in-Err-Font.ensures.exact in
    c.new-in-Err-Font.ensures.items ∙ sym (components-unread c.args.self.now c.args.g c.in-Err-Font.field-0-0 unread)
