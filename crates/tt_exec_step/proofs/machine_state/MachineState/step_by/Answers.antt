use Rattle.std.proofs.Common.{◌≡◌, true, sym, ap, ◌∙◌}
use Rattle.tt_code.specs.Decoding.{takes_data}
use Rattle.tt_code.specs.Views.{instr_view}
use Rattle.tt_exec_step.specs.MachineState.{MachineState}
use Rattle.tt_exec_step.specs.Opcodes.{operation_of}
use Rattle.tt_exec_step.specs.States.{state_of}
use Rattle.tt_exec_step.specs.Step.{operate, step}
use Rattle.tt_exec_step.proofs.Steps.{comes_to, data_step, plain_step}
use Rattle.tt_exec_step.proofs.machine_state.MachineState.step_by.Goals as goal

pub returns-in-Ok : goal.returns-in-Ok
returns-in-Ok c =
    let m = state_of c.args.self.now in
    let here = sym c.requires.place in
    let carries : takes_data c.args.op ≡ true = sym c.if-not-takes_data.ensures in
    let more : takes_data c.in-Ok.i.op ≡ true = ap takes_data (c.in-Ok.ensures.opcode ∙ sym c.requires.opcode) ∙ carries in
    let made = data_step m c.args.at (instr_view c.in-Ok.i) here c.requires.there c.in-Ok.ensures.exact more in
    comes_to (step m) _ m.frame.place c.args.at _ _ here made c.push.ensures.exact

pub returns-then-not-takes_data : goal.returns-then-not-takes_data
returns-then-not-takes_data c =
    let m = state_of c.args.self.now in
    let here = sym c.requires.place in
    let made =
    plain_step m c.args.op c.args.at here c.requires.there (sym c.requires.opcode) (sym c.if-not-takes_data.ensures)
    ∙ ap (λ (s : MachineState). operate (operation_of c.args.op) c.args.at s) (sym c.fill_stack.ensures.exact) in
    comes_to (step m) _ m.frame.place c.args.at _ _ here made c.operate.ensures
