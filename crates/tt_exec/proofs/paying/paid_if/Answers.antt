use Rattle.std.proofs.Common.{◌≡◌, ◌+◌, ap, sym, ◌∙◌, refl, true, false}
use Rattle.tt_exec_step.specs.States.{state_of}
use Rattle.tt_exec.specs.Work.{over_at, step_cost}
use Rattle.tt_exec.proofs.Costs.{if_cost, pays_by}
use Rattle.tt_exec.proofs.paying.paid_if.Goals as goal

pub returns-then-not-charge : goal.returns-then-not-charge
returns-then-not-charge c =
    let m = state_of c.args.state.now in
    let cost : step_cost m ≡ 2 + c.passed_by.result =
    if_cost m _ c.requires.opcode c.requires.condition c.skip_if-end.ensures.exact ∙ ap (λ n. 2 + n) (sym c.passed_by.ensures.exact) in
    (pays_by m _ false c.args.work.now.left c.charge.new.work.left cost (c.if-not-charge.ensures (over_at m)), refl)

pub returns : goal.returns
returns c =
    let m = state_of c.args.state.now in
    let cost : step_cost m ≡ 2 + c.passed_by.result =
    if_cost m _ c.requires.opcode c.requires.condition c.skip_if-end.ensures.exact ∙ ap (λ n. 2 + n) (sym c.passed_by.ensures.exact) in
    (pays_by m _ true c.args.work.now.left c.charge.new.work.left cost (c.if-not-charge.ensures (over_at m)), c.step_if.ensures)
