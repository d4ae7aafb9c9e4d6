use Rattle.std.proofs.Common.{refl, sym, ap, ◌∙◌}
use Rattle.tt_exec_step.specs.MachineState.{MachineState}
use Rattle.tt_exec_step.specs.Opcodes.{operation_of}
use Rattle.tt_exec_step.specs.States.{state_of}
use Rattle.tt_exec_step.specs.Step.{operate, step}
use Rattle.tt_exec_step.proofs.Steps.{comes_to, plain_step}
use Rattle.tt_exec_step.proofs.machine_state.MachineState.step_else.Goals as goal

pub returns : goal.returns
returns c =
    let m = state_of c.args.self.now in
    let at = m.frame.place in
    let made =
    plain_step m 0x1B at refl c.requires.there c.requires.opcode refl
    ∙ ap (λ (s : MachineState). operate (operation_of 0x1B) at s) (sym c.fill_stack.ensures.exact) in
    comes_to (step m) _ at at _ _ refl made c.else_to.ensures
