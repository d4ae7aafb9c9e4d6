use Rattle.std.proofs.Common.{◌≡◌, false, sym}
use Rattle.tt_exec_step.specs.States.{state_of}
use Rattle.tt_exec_step.specs.Views.{code_of}
use Rattle.tt_exec.specs.Machines.{run_from}
use Rattle.tt_exec.specs.Work.{charged, copied, enough, over_at}
use Rattle.tt_exec.proofs.StepsPaid.{not_begun, paid_of_rest, work_of_rest}
use Rattle.tt_exec.proofs.machine.Machine.run_within.Goals as goal

pub returns-in-Some-clause-work : goal.returns-in-Some-clause-work
returns-in-Some-clause-work c =
    let m = run_from (code_of c.args.code) c.args.self.now.state in
    let open_at : c.args.self.now.failed ≡ false = rw (sym c.self.view_is) c.if-self.false in
    let pays : charged (over_at m) (copied m) c.args.work.now.left ≡ enough c.pay_copies.new.work.left =
    rw (sym c.self.view_is) (c.in-Some.ensures.2 _) in
    work_of_rest (code_of c.args.code) c.args.self.now _ m _ _ _ c.run_paid.result open_at c.run_paid.ensures.exact pays
    c.run_paid.ensures.work

pub returns-in-Some-clause-paid : goal.returns-in-Some-clause-paid
returns-in-Some-clause-paid c =
    let m = run_from (code_of c.args.code) c.args.self.now.state in
    paid_of_rest _ _ _ _ _ c.run_paid.result (c.in-Some.ensures.2 (over_at m)) c.run_paid.ensures.paid

pub returns-in-None-clause-work : goal.returns-in-None-clause-work
returns-in-None-clause-work c =
    let spent = not_begun (code_of c.args.code) (state_of c.self.inside.state) _ _ c.new-fault.ensures c.in-None.ensures.0 in
    (rw (sym c.self.view_is) spent, c.in-None.ensures.1)
