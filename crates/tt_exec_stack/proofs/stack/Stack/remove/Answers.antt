use Rattle.std.proofs.Common.{◌≡◌, ◌≤◌, length, vec_len, ap, arith}
use Rattle.std.proofs.lemmas.List.{length-reverse}
use Rattle.tt_exec_stack.proofs.Entries.{removed}
use Rattle.tt_exec_stack.proofs.stack.Stack.remove.Goals as goal

pub returns : goal.returns
returns c =
    let items = c.self.inside.items in
    let many : vec_len items ≡ length items.items = items.ok.0 in
    let seen = ap (length {A = _}) c.self.view_is in
    let turned = length-reverse items.items in
    let high : c.args.k ≤ vec_len items = omega (arith, c.requires.high, seen, turned, many) in
    let left = removed items.items (vec_len items) c.args.k many c.requires.low high in
    rw (← c.self.view_is, c.remove.ensures.items, c.len.ensures) left
