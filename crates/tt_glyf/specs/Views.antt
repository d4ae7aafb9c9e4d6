-- The definitions' views of the code's values.
use Rattle.std.specs.Prelude.{ℕ}
use Rattle.tt_glyf.specs.declared.composite.Program as program
use Rattle.tt_glyf.specs.declared.composite.RecordList as record_list
use Rattle.tt_glyf.specs.declared.component.Transform as transform
use Rattle.tt_glyf.specs.declared.coordinates.AxisFlags as axis
use Rattle.tt_glyf.specs.declared.coordinates.Coordinate as coordinate
use Rattle.tt_glyf.specs.declared.coordinates.Delta as delta
use Rattle.tt_glyf.specs.declared.flags.FlagList as flag_list
use Rattle.tt_glyf.specs.declared.flags.Run as run
use Rattle.tt_glyf.specs.declared.raw.RawPoint.{RawPoint}
use Rattle.tt_glyf.specs.declared.raw.Record.{Record}
use Rattle.tt_glyf.specs.declared.simple.EndList as end_list
use Rattle.tt_glyf.specs.Bytes.{Listing}
use Rattle.tt_glyf.specs.Composite.{Transform, Program}
use Rattle.tt_glyf.specs.Coordinates.{AxisFlags, Coordinate, Delta}
use Rattle.tt_glyf.specs.Flags.{Run}

abbrev pub run_of : run.Run → Run
run_of r = record { flag = r.flag; copies = r.copies; next = r.next }

abbrev pub held_listing : flag_list.FlagList → Listing RawPoint
held_listing f = record { items = f.points.items; next = f.next }

abbrev pub axis_of : axis.AxisFlags → AxisFlags
axis_of a = record { short = a.short.0; same = a.same.0 }

abbrev pub delta_of : delta.Delta → Delta
delta_of d = record { by = d.by; next = d.next }

abbrev pub coordinate_of : coordinate.Coordinate → Coordinate
coordinate_of c = record { value = c.value; next = c.next }

abbrev pub ends_listing : end_list.EndList → Listing ℕ
ends_listing e = record { items = e.ends.items; next = e.next }

abbrev pub transform_view : transform.Transform → Transform
transform_view t = record { xx = t.xx; yx = t.yx; xy = t.xy; yy = t.yy }

abbrev pub records_listing : record_list.RecordList → Listing Record
records_listing r = record { items = r.records.items; next = r.next }

abbrev pub program_view : program.Program → Program
program_view p = record { code = p.code.now; code_at = p.code_at }
