use Rattle.std.proofs.Common.{◌≡◌, ◌+◌, true, refl, sym, ap, subst, ◌∙◌}
use Rattle.tt_exec_step.specs.Flow.{goes_to, skips_if}
use Rattle.tt_exec_step.specs.MachineState.{MachineState}
use Rattle.tt_exec_step.specs.Opcodes.{operation_of}
use Rattle.tt_exec_step.specs.States.{state_of}
use Rattle.tt_exec_step.specs.Step.{operate, step}
use Rattle.tt_exec_step.proofs.Steps.{comes_to, plain_step, skips_filled}
use Rattle.tt_exec_step.proofs.machine_state.MachineState.step_if.Goals as goal

pub returns : goal.returns
returns c =
    let m = state_of c.args.self.now in
    let at = m.frame.place in
    let made =
    plain_step m 0x58 at refl c.requires.there c.requires.opcode refl
    ∙ ap (λ (s : MachineState). operate (operation_of 0x58) at s) (sym c.fill_stack.ensures.exact) in
    comes_to (step m) _ at at _ _ refl made c.if_to.ensures

pub if_to-requires-clause-condition : goal.if_to-requires-clause-condition
if_to-requires-clause-condition c =
    let m = state_of c.args.self.now in
    subst (λ (s : MachineState). skips_if s.stack ≡ true) (sym c.fill_stack.ensures.exact)
    (skips_filled (goes_to (m.frame.place + 1) m) c.requires.condition)
