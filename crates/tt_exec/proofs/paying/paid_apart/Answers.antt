use Rattle.std.proofs.Common.{◌≡◌, ap, sym, ◌∙◌, refl, true, false}
use Rattle.tt_exec_step.specs.States.{state_of}
use Rattle.tt_exec.specs.Work.{cost_by, over_at, step_cost}
use Rattle.tt_exec.proofs.Costs.{pays_by, zero_skips}
use Rattle.tt_exec.proofs.paying.paid_apart.Goals as goal

pub returns-then-not-charge : goal.returns-then-not-charge
returns-then-not-charge c =
    let m = state_of c.args.state.now in
    let cost : step_cost m ≡ c.cost_by.result = ap (λ o. cost_by o m) (sym c.requires.opcode) ∙ sym c.cost_by.ensures in
    (pays_by m _ false c.args.work.now.left c.charge.new.work.left cost (c.if-not-charge.ensures (over_at m)), refl)

pub returns : goal.returns
returns c =
    let m = state_of c.args.state.now in
    let cost : step_cost m ≡ c.cost_by.result = ap (λ o. cost_by o m) (sym c.requires.opcode) ∙ sym c.cost_by.ensures in
    (pays_by m _ true c.args.work.now.left c.charge.new.work.left cost (c.if-not-charge.ensures (over_at m)), refl, (c.requires.there, c.requires.opcode))
