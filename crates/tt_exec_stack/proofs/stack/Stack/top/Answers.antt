use Rattle.std.proofs.Common.{◌≡◌, ◌-◌, ◌≤◌, length, ap, ◌∙◌, arith}
use Rattle.tt_exec_stack.proofs.Tops.{top_given}
use Rattle.tt_exec_stack.proofs.stack.Stack.top.Goals as goal

pub returns : goal.returns
returns c =
    let items = c.self.inside.items in
    let many : c.len.result ≡ length items.items = c.len.ensures ∙ items.ok.0 in
    let within : c.args.n ≤ length items.items = omega (arith, many, c.in-Some.ensures.0) in
    let from = c.in-Some.ensures.1 ∙ ap (λ k. k - c.args.n) many in
    rw (← c.self.view_is, c.deref.ensures.value) (top_given items.items c.args.n c.in-Some.from within from)
