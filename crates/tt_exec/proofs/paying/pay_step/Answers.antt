use Rattle.std.proofs.Common.{refl, arith, true, false}
use Rattle.tt_exec_step.specs.States.{state_of}
use Rattle.tt_exec.specs.Work.{over_at}
use Rattle.tt_exec.proofs.Costs.{pays_by, pays_none, step_told}
use Rattle.tt_exec.proofs.paying.pay_step.Goals as goal

pub returns-in-None : goal.returns-in-None
returns-in-None c =
    let m = state_of c.args.state.now in
    (pays_none m c.args.work.now.left c.in-None.is, refl, (omega arith, refl))

pub returns-then-not-charge : goal.returns-then-not-charge
returns-then-not-charge c =
    let m = state_of c.args.state.now in
    let cost = step_told m _ c.fixed_work-cost.result refl c.fixed_work-cost.ensures c.if-cost-eq0.false in
    (pays_by m _ false c.args.work.now.left c.charge.new.work.left cost (c.if-not-charge.ensures (over_at m)), refl)

pub returns : goal.returns
returns c =
    let m = state_of c.args.state.now in
    let cost = step_told m _ c.fixed_work-cost.result refl c.fixed_work-cost.ensures c.if-cost-eq0.false in
    (pays_by m _ true c.args.work.now.left c.charge.new.work.left cost (c.if-not-charge.ensures (over_at m)), refl, (omega arith, refl))
