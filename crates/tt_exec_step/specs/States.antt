-- No part of the standard: a machine as contracts see it.
use Rattle.tt_exec_state.specs.Instances.{instance_of}
use Rattle.tt_exec_step.specs.declared.machine_state.MachineState as declared
use Rattle.tt_exec_step.specs.MachineState.{MachineState}
use Rattle.tt_exec_step.specs.Views.{frame_of}

abbrev pub state_of : declared.MachineState → MachineState
state_of m = record {
  stack = m.stack;
  frame = frame_of m.frame;
  callers = m.callers;
  functions = m.functions;
  instructions = m.instructions;
  storage = m.storage.items;
  cvt = m.cvt.items;
  graphics = m.graphics;
  tolerance = m.tolerance;
  zones = m.points;
  skip_glyphs = m.skip_glyphs;
  default_state = m.default_state;
  ppem = m.size.ppem;
  scale = m.size.scale;
  instance = instance_of m.instance;
  kind = m.kind;
}
