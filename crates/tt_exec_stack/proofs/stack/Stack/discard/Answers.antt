use Rattle.std.proofs.Common.{◌≡◌, ◌≤◌, length, ap, ◌∙◌, arith}
use Rattle.std.proofs.lemmas.List.{length-reverse}
use Rattle.tt_exec_stack.proofs.Tops.{rest}
use Rattle.tt_exec_stack.proofs.stack.Stack.discard.Goals as goal

pub returns : goal.returns
returns c =
    let items = c.self.inside.items in
    let many : c.len.result ≡ length items.items = c.len.ensures ∙ items.ok.0 in
    let seen = ap (length {A = _}) c.self.view_is in
    let turned = length-reverse items.items in
    let within : c.args.n ≤ length items.items = omega (arith, c.requires, seen, turned) in
    rw (← c.self.view_is, c.truncate.ensures.items, many) (rest items.items c.args.n within)
