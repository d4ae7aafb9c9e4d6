use Rattle.std.proofs.Common.{◌≡◌, false, sym, refl}
use Rattle.tt_exec_step.specs.States.{state_of}
use Rattle.tt_exec_step.specs.Views.{code_of}
use Rattle.tt_exec_step.proofs.Computed.{end_told}
use Rattle.tt_exec.specs.Machines.{run_from}
use Rattle.tt_exec.proofs.StepsPaid.{fault_told, runs_failed}
use Rattle.tt_exec.proofs.machine.Machine.run_paid.Goals as goal

pub returns-in-Ok-clause-outcome : goal.returns-in-Ok-clause-outcome
returns-in-Ok-clause-outcome c =
    let from : state_of c.begin.new.self ≡ run_from (code_of c.args.code) c.args.self.now.state =
    rw (c.begin.ensures, c.kind_of.ensures, sym c.self.view_is) refl in
    end_told _ (state_of c.begin.new.self) c.in-Ok.steps _ from c.in-Ok.ensures.exact

pub returns-in-Err-clause-outcome : goal.returns-in-Err-clause-outcome
returns-in-Err-clause-outcome c =
    let from : state_of c.begin.new.self ≡ run_from (code_of c.args.code) c.args.self.now.state =
    rw (c.begin.ensures, c.kind_of.ensures, sym c.self.view_is) refl in
    fault_told _ (state_of c.begin.new.self) _ c.in-Err.fault _ from c.in-Err.ensures.exact

pub returns-in-Err-clause-exact : goal.returns-in-Err-clause-exact
returns-in-Err-clause-exact c =
    let from : state_of c.begin.new.self ≡ run_from (code_of c.args.code) c.args.self.now.state =
    rw (c.begin.ensures, c.kind_of.ensures, sym c.self.view_is) refl in
    let open_at : c.args.self.now.failed ≡ false = rw (sym c.self.view_is) c.if-self.false in
    runs_failed (code_of c.args.code) c.args.self.now _ (state_of c.begin.new.self) _ c.in-Err.fault open_at refl from
    c.in-Err.ensures.exact
