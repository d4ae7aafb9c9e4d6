-- No part of the standard: the parts of a machine, which exist between runs, as contracts see them.
use Rattle.std.specs.Prelude.{ℕ, ℤ, Bool, List}
use Rattle.tt_core.specs.declared.scaling.Scale.{Scale}
use Rattle.tt_state.specs.declared.graphics_state.GraphicsState.{GraphicsState}
use Rattle.tt_state.specs.declared.tolerance.Tolerance.{Tolerance}
use Rattle.tt_exec_step.specs.state.Instances.{instance_of}
use Rattle.tt_exec_step.specs.zones.Views.{zones_view}
use Rattle.tt_exec_step.specs.zones.Zones.{ZoneLists}
use Rattle.tt_exec.specs.declared.parts.Parts as declared
use Rattle.tt_exec_step.specs.MachineState.{Body}

pub record Parts : Type 0 where
  pub scale : Scale
  pub ppem : ℕ
  pub cvt : List ℤ
  pub storage : List ℤ
  pub zones : ZoneLists
  pub functions : List (ℕ × Body)
  pub instructions : List (ℕ × Body)
  pub state : GraphicsState
  pub instance : List ℤ
  pub tolerance : Tolerance
  pub skip_glyphs : Bool
  pub default_state : Bool

abbrev pub parts_of : declared.Parts → Parts
parts_of p = record {
  scale = p.scale;
  ppem = p.ppem;
  cvt = p.cvt.items;
  storage = p.storage.items;
  zones = zones_view p.zones;
  functions = p.functions;
  instructions = p.instructions;
  state = p.state;
  instance = instance_of p.instance;
  tolerance = p.tolerance;
  skip_glyphs = p.skip_glyphs;
  default_state = p.default_state;
}
