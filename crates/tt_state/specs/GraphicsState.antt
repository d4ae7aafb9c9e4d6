-- Apple TrueType Reference Manual, "Graphics State": the state variables and their defaults.
use Rattle.std.specs.Prelude.{Bool, true, false, pos}
use Rattle.tt_state.specs.declared.graphics_state.Zone.TheVariants as zone
use Rattle.tt_state.specs.declared.graphics_state.GraphicsState.{GraphicsState}
use Rattle.tt_state.specs.declared.graphics_state.ScanControl.{ScanControl}
use Rattle.tt_state.specs.declared.rounding.Round.TheVariants as round
use Rattle.tt_state.specs.declared.vector.Vector.TheVariants as vector

-- dropouts are not filled unless a program requests it
abbrev pub default_scan : ScanControl
default_scan = record { on = false; scan_type = 0 }

-- the defaults. The standard gives a control-value cut-in of 17/16 pixel and a minimum distance of one.
abbrev pub default_of : Bool → GraphicsState
default_of whole = record {
  proj = vector.X;
  dual = vector.X;
  free = vector.X;
  rp0 = pos 0;
  rp1 = pos 0;
  rp2 = pos 0;
  zp0 = zone.Glyph;
  zp1 = zone.Glyph;
  zp2 = zone.Glyph;
  loops = 1;
  round = round.Grid;
  min_distance = pos 64;
  cut_in = pos 68;
  single_width = pos 0;
  single_cut_in = pos 0;
  auto_flip = true;
  delta_base = pos 9;
  delta_shift = 3;
  scan = default_scan;
  whole = whole;
}

-- the defaults of a machine without the whole instruction set
abbrev pub default_state : GraphicsState
default_state = default_of false
