use Rattle.std.proofs.Common.{refl}
use Rattle.tt_exec_step.proofs.machine_state.MachineState.begin.Goals as goal

pub returns : goal.returns
returns c = rw (c.clear.ensures, c.clear-2.ensures, c.of-self.ensures) refl
