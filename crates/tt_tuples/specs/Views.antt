-- The definitions' views of the code's values.
use Rattle.std.specs.Prelude.{ℕ, ◌≤◌, if◌then◌else◌, Option, Some, None, List, vec_capacity}
use Rattle.tt_tuples.specs.declared.deltas.PackedDelta as delta
use Rattle.tt_tuples.specs.declared.deltas.DeltaRun as delta_run
use Rattle.tt_tuples.specs.declared.header.TupleStoreHeader as header
use Rattle.tt_tuples.specs.declared.header.Peak as peak
use Rattle.tt_tuples.specs.declared.header.PlacedSides as placed_sides
use Rattle.tt_tuples.specs.declared.header.TupleHeader as tuple_header
use Rattle.tt_tuples.specs.declared.point_numbers.Count as count
use Rattle.tt_tuples.specs.declared.point_numbers.Number as number
use Rattle.tt_tuples.specs.declared.point_numbers.NumberList as number_list
use Rattle.tt_tuples.specs.declared.point_numbers.NumberRun as number_run
use Rattle.tt_tuples.specs.declared.point_numbers.TuplePoints as named
use Rattle.tt_tuples.specs.declared.point_numbers.TuplePoints.TheVariants as points
use Rattle.tt_tuples.specs.declared.region.Region as region
use Rattle.tt_tuples.specs.declared.region.RegionSides as sides
use Rattle.tt_tuples.specs.declared.source.TupleSource as source
use Rattle.tt_tuples.specs.declared.source.TupleTable.{TupleTable}
use Rattle.tt_tuples.specs.declared.tuple.Tuple as tuple
use Rattle.tt_tuples.specs.declared.tuple.TupleRoom as room
use Rattle.tt_tuples.specs.declared.tuple_store.TupleStore as store
use Rattle.tt_tuples.specs.declared.tuples.SharedPoints as shared_points
use Rattle.tt_tuples.specs.Bytes.{TupleStore, Read}
use Rattle.tt_tuples.specs.Deltas.{PackedDelta, DeltaRun}
use Rattle.tt_tuples.specs.Headers.{TupleStoreHeader, TupleHeader}
use Rattle.tt_tuples.specs.PointNumbers.{Number, NumberRun, TuplePoints, all_points, listed}
use Rattle.tt_tuples.specs.Regions.{Region, RegionSides}
use Rattle.tt_tuples.specs.Sources.{Source, Tuple, second_count}

abbrev pub number_run_of : number_run.NumberRun → NumberRun
number_run_of r = record { at = r.at; left = r.left; words = r.words }

abbrev pub number_of : number.Number → Number
number_of n = record { number = n.number; run = number_run_of n.run }

abbrev pub count_of : count.Count → Read ℕ
count_of c = record { value = c.count; next = c.next }

abbrev pub points_of : number_list.NumberList → TuplePoints
points_of l = if l.all then all_points else listed l.numbers.items

abbrev pub named_points : named.TuplePoints → TuplePoints
named_points points.All = all_points
named_points (points.Listed numbers) = listed numbers.now

abbrev pub delta_run_of : delta_run.DeltaRun → DeltaRun
delta_run_of r = record { at = r.at; left = r.left; size = r.size }

abbrev pub delta_of : delta.PackedDelta → PackedDelta
delta_of d = record { delta = d.delta; run = delta_run_of d.run }

-- a value with its read contents, and the place after their bytes
abbrev pub read_into : {A : Type 0} → A → ℕ → Read A
read_into value next = record { value = value; next = next }

abbrev pub sides_of : Option sides.RegionSides → Option RegionSides
sides_of None = None
sides_of (Some s) = Some (record { start = s.start.now; end = s.end.now })

abbrev pub region_of : region.Region → Region
region_of r = record { peak = r.peak.now; sides = sides_of r.sides }

abbrev pub store_of : store.TupleStore → TupleStore
store_of d = record { table = d.table; start = d.start; bytes = d.bytes.now }

abbrev pub source_of : source.TupleSource → Source
source_of s =
    record { store = store_of s.store; shared = s.shared.now; coordinates = s.coordinates.now; points = s.points }

abbrev pub header_of : header.TupleStoreHeader → TupleStoreHeader
header_of h = record { tuples = h.tuples; shares_points = h.shares_points; data_at = h.data_at }

abbrev pub peak_of : peak.Peak → Read (List ℕ)
peak_of p = record { value = p.peak.now; next = p.next }

abbrev pub sides_read : placed_sides.PlacedSides → Read (Option RegionSides)
sides_read s = record { value = sides_of s.sides; next = s.next }

abbrev pub tuple_header_of : tuple_header.TupleHeader → TupleHeader
tuple_header_of h = record { size = h.size; share = h.share.parts; own_points = h.own_points; next = h.next }

abbrev pub tuple_of : tuple.Tuple → Tuple
tuple_of t = record { share = t.share.parts; points = named_points t.points; xs = t.xs.now; ys = t.ys.now }

abbrev pub shared_of : shared_points.SharedPoints → Read TuplePoints
shared_of s = record { value = points_of s.points; next = s.next }

-- the points of a tuple whose own ones are in memory
abbrev pub room_points : room.TupleRoom → TuplePoints → TuplePoints
room_points r shared = if r.own_points then points_of r.own else shared

-- the tuple in memory
abbrev pub room_tuple : room.TupleRoom → TuplePoints → Tuple
room_tuple r shared = record { share = r.share.parts; points = room_points r shared; xs = r.xs.items; ys = r.ys.items }

-- memory for the data of a tuple
pub record HasRoom (r : room.TupleRoom) (t : TupleTable) (points : ℕ) : Type 0 where
  pub own : points ≤ vec_capacity r.own.numbers
  pub xs : points ≤ vec_capacity r.xs
  pub ys : second_count t points ≤ vec_capacity r.ys
