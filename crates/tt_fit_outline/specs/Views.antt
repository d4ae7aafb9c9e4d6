-- The definitions' views of the code's values.
use Rattle.std.specs.Prelude.{Bool, ℤ, pos}
use Rattle.tt_fit_outline.specs.declared.shift.ComponentPoint as component_point
use Rattle.tt_fit_outline.specs.declared.shift.Shift as shift
use Rattle.tt_fit_outline.specs.declared.outline.Outline as outline
use Rattle.tt_fit_outline.specs.declared.scaling.Landing as landing
use Rattle.tt_fit_outline.specs.declared.scaling.Phantom as phantom
use Rattle.tt_fit_outline.specs.declared.size.FontSize as size
use Rattle.tt_fit_outline.specs.declared.units.PhantomUnits as phantom_units
use Rattle.tt_fit_outline.specs.declared.units.Units as units
use Rattle.tt_fit_outline.specs.Outline.{PhantomPoints, Outline, phantom_of}
use Rattle.tt_fit_outline.specs.Size.{FontSize}
use Rattle.tt_fit_outline.specs.Units.{Units}

abbrev pub outline_of : outline.Outline → Outline
outline_of o = record { points = o.points.items; ends = o.ends.items; phantom = phantom_of o.phantom; scan = o.scan }

abbrev pub size_view : size.FontSize → FontSize
size_view z = record { ppem = z.ppem; scale = z.scale; control_values = z.control_values }

abbrev pub landing_view : landing.Landing → ℤ × ℤ × Bool
landing_view p = (p.x, p.y, p.on)

abbrev pub phantom_view : phantom.Phantom → PhantomPoints
phantom_view p = record
    { left = (p.left, pos 0); right = (p.right, pos 0); ascent = (pos 0, p.ascent); descent = (pos 0, p.descent) }

abbrev pub component_point_view : component_point.ComponentPoint → ℤ × ℤ
component_point_view p = (p.x, p.y)

abbrev pub shift_view : shift.Shift → ℤ × ℤ
shift_view s = (s.x, s.y)

abbrev pub phantom_units_view : phantom_units.PhantomUnits → PhantomPoints
phantom_units_view p = record
    { left = (p.left, pos 0); right = (p.right, pos 0); ascent = (pos 0, p.ascent); descent = (pos 0, p.descent) }

abbrev pub units_view : units.Units → Units
units_view u = record { points = u.points.now; phantom = phantom_units_view u.phantom }
