use Rattle.std.proofs.Common.{refl, true, false, rules, arith}
use Rattle.tt_exec_step.specs.States.{state_of}
use Rattle.tt_exec.specs.Work.{over_at}
use Rattle.tt_exec.proofs.Costs.{end_cost, pays_by}
use Rattle.tt_exec.proofs.paying.paid_end.Goals as goal

pub returns-then-not-charge : goal.returns-then-not-charge
returns-then-not-charge c =
    let m = state_of c.args.state.now in
    (pays_by m 1 false c.args.work.now.left c.charge.new.work.left (end_cost m c.requires) (c.if-not-charge.ensures (over_at m)), refl)

pub returns : goal.returns
returns c =
    let m = state_of c.args.state.now in
    (pays_by m 1 true c.args.work.now.left c.charge.new.work.left (end_cost m c.requires) (c.if-not-charge.ensures (over_at m)), (omega (arith, c.requires), search rules))
