-- OpenType, "cvar": the control values at the start of a font's programs at an instance, and the instance's place on each
-- axis as programs read it.
use Rattle.std.specs.Prelude.{ℕ, ◌*◌, nat_lt, if◌then◌else◌, ℤ, List, [], map, Option, Some, None}
use Rattle.std.specs.List.{range_with_len}
use Rattle.tt_core.specs.Numbers.{signed16, unsigned_at}
use Rattle.tt_core.specs.declared.scaling.Scale.{Scale}
use Rattle.tt_deltas.specs.ControlValues.{varied_values}
use Rattle.tt_face.specs.Faces.{FaceInstance}
use Rattle.tt_fit.specs.DeltaCounting.{control_count, control_work, delta_limit}
use Rattle.tt_fit.specs.declared.programs.Fit.{Fit}
use Rattle.tt_fit.specs.declared.programs.Fit.TheVariants as fit
use Rattle.tt_fit_hinting.specs.machine.Parts.{Parts}
use Rattle.tt_fit_hinting.specs.state.Instances.{f2dot14}
use Rattle.tt_fit_variation.specs.Fine.{varied_control_value}

-- a control value in font units
abbrev pub control_word : List ℕ → ℕ → ℤ
control_word cvt i = signed16 (unsigned_at cvt (2 * i) 2)

abbrev pub control_words : List ℕ → List ℤ
control_words cvt = map (control_word cvt) (range_with_len 0 (control_count cvt))

-- The bytes of cvar that are read. With Best none, where the work of their deltas exceeds what a job may ask for: it is
-- refused then (profile).
abbrev pub cvar_read : Fit → FaceInstance → List ℕ → List ℕ
cvar_read fit.Full i cvt = i.cvar
cvar_read fit.None i cvt = i.cvar
cvar_read fit.Fallback i cvt = i.cvar
cvar_read fit.Best i cvt = if nat_lt delta_limit (control_work i cvt) then [] else i.cvar

-- the control values at an instance in 26.6 pixels
abbrev pub instance_control_values : FaceInstance → Scale → List ℕ → List ℕ → List ℤ
instance_control_values i scale cvar cvt =
    map (varied_control_value scale) (varied_values i.gvar cvar i.coordinates (control_words cvt))

-- the parts of a machine with the control values of an instance
abbrev pub varied_parts : Option FaceInstance → Fit → Scale → List ℕ → Parts → Parts
varied_parts None how scale cvt parts = parts
varied_parts (Some i) how scale cvt parts =
    record parts { cvt = instance_control_values i scale (cvar_read how i cvt) cvt }

-- the place on each axis in 2.14; the default has none
abbrev pub places_of : Option FaceInstance → List ℤ
places_of None = []
places_of (Some i) = map f2dot14 i.coordinates
