-- No part of the standard: no instruction adds or removes a point, a storage place or a control value.
use Rattle.std.specs.Prelude.{◌≡◌, length}
use Rattle.tt_exec_points.specs.zones.Zones.{ZoneLists, AreContours}
use Rattle.tt_exec_step.specs.MachineState.{MachineState}

-- the contours are ranges of the glyph's points
abbrev pub HasContours : ZoneLists → Type 0
HasContours z = AreContours 0 z.contours (length z.glyph)

pub record SameSizes (old new : MachineState) : Type 0 where
  pub storage : length new.storage ≡ length old.storage
  pub cvt : length new.cvt ≡ length old.cvt
