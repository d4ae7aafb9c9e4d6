use Rattle.std.proofs.Common.{◌≢◌, ◌<◌, length, ap, arith, rules}
use Rattle.std.proofs.lemmas.List.{length-reverse}
use Rattle.tt_core.specs.Limits.{stack_limit}
use Rattle.tt_exec_stack.specs.Stack.{pushed}
use Rattle.tt_exec_stack.proofs.stack.Stack.push.Goals as goal

pub put-requires : goal.put-requires
put-requires c =
    let items = c.self.inside.items in
    let not_full : c.len.result ≢ stack_limit = c.if-len-eq-STACK_LIMIT.false in
    let seen = ap (length {A = _}) c.self.view_is in
    let turned = length-reverse items.items in
    omega (arith, c.len.ensures, c.self.invariant.0, items.ok.0, seen, turned)

pub returns : goal.returns
unfolding pushed
returns c =
    let items = c.self.inside.items in
    let not_full : c.len.result ≢ stack_limit = c.if-len-eq-STACK_LIMIT.false in
    let seen = ap (length {A = _}) c.self.view_is in
    let turned = length-reverse items.items in
    let room : length c.args.self.now < stack_limit =
    omega (arith, c.len.ensures, c.self.invariant.0, items.ok.0, seen, turned) in
    search rules
