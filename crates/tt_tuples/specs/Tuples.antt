-- OpenType, "OpenType Font Variations Common Table Formats", "Tuple Variation Store": the tuples that hold at an instance,
-- with their points and deltas, or the first defect that reading meets. A tuple that does not hold is read no further
-- than its header. Data begin where the sizes before say, and end where the bytes end (profile).
use Rattle.std.specs.Prelude.{◌≡◌, ℕ, zero, suc, ◌+◌, ◌==◌, Bool, true, false, if◌then◌else◌, ℤ, IfSome, List, [], ◌∷◌, Result, Ok, Err}
use Rattle.tt_core.specs.declared.font_fault.FontFault.{FontFault}
use Rattle.tt_core.specs.Faults.{Fault}
use Rattle.tt_core.specs.Outcomes.{◌>>=◌, font_fault}
use Rattle.tt_tuples.specs.declared.source.TupleTable.{TupleTable}
use Rattle.tt_tuples.specs.declared.source.TupleTable.TheVariants as table
use Rattle.tt_tuples.specs.Bytes.{TupleStore, Read}
use Rattle.tt_tuples.specs.Deltas.{deltas_at}
use Rattle.tt_tuples.specs.Headers.{TupleStoreHeader, TupleHeader, header_at, header_place, tuple_header_at}
use Rattle.tt_tuples.specs.PointNumbers.{TuplePoints, listed, points_at}
use Rattle.tt_tuples.specs.Sources.{Source, Tuple, delta_count}

-- the points of all tuples without point numbers of their own; no points where nothing is shared
unfoldable pub shared_points_of : Source → TupleStoreHeader → Result (Read TuplePoints) Fault
shared_points_of s h =
    if h.shares_points then points_at s.store h.data_at s.points else Ok (record { value = listed []; next = h.data_at })

-- the points of a tuple whose data begin at a place
abbrev pub tuple_points : Source → TuplePoints → Bool → ℕ → Result (Read TuplePoints) Fault
tuple_points s shared own at = if own then points_at s.store at s.points else Ok (record { value = shared; next = at })

-- the second list of deltas
abbrev pub second_deltas : TupleTable → TupleStore → ℕ → ℕ → Result (Read (List ℤ)) Fault
second_deltas table.Gvar store at count = deltas_at store at count
second_deltas table.Cvar store at count = Ok (record { value = []; next = at })

-- a tuple that holds, with its data from a place on
unfoldable pub tuple_at : Source → TuplePoints → TupleHeader → ℕ → Result Tuple Fault
tuple_at s shared h at = do
  points ← tuple_points s shared h.own_points at
  xs ← deltas_at s.store points.next (delta_count points.value s.points)
  ys ← second_deltas s.store.table s.store xs.next (delta_count points.value s.points)
  Ok (record { share = h.share; points = points.value; xs = xs.value; ys = ys.value })

-- a tuple before others
abbrev pub tuple_before : Tuple → Result (List Tuple) Fault → Result (List Tuple) Fault
tuple_before t others = others >>= λ ts. Ok (t ∷ ts)

-- of the given number of tuples those that hold; the last arguments are the places of the next header and of its data
unfoldable pub tuples_from : Source → TuplePoints → ℕ → ℕ → ℕ → Result (List Tuple) Fault
tuples_from s shared zero at data_at = Ok []
tuples_from s shared (suc left) at data_at = do
  h ← tuple_header_at s at
  if h.share == 0 then tuples_from s shared left h.next (data_at + h.size)
      else (tuple_at s shared h data_at >>= λ t. tuple_before t (tuples_from s shared left h.next (data_at + h.size)))

-- the tuples that hold
unfoldable pub tuples_of : Source → Result (List Tuple) Fault
tuples_of s = do
  h ← header_at s.store (header_place s.store.table)
  shared ← shared_points_of s h
  tuples_from s shared.value h.tuples (header_place s.store.table + 4) shared.next

-- where a reader of tuples is: the shared points, the next header, its data, how many tuples remain, and the tuple
-- that was read last
pub record TuplesLeft : Type 0 where
  pub source : Source
  pub shared : TuplePoints
  pub at : ℕ
  pub data_at : ℕ
  pub left : ℕ
  pub tuple : Tuple

-- the tuples that a reader will give
abbrev pub rest : TuplesLeft → Result (List Tuple) Fault
rest t = tuples_from t.source t.shared t.left t.at t.data_at

-- a reader gives these tuples, unless memory ran out
abbrev pub Opens : Result TuplesLeft FontFault → Result (List Tuple) Fault → Type 0
Opens (Ok t) wanted = wanted ≡ rest t
Opens (Err f) wanted = IfSome (font_fault f) (λ e. wanted ≡ Err e)

-- a reader has read a tuple that holds, or one that does not, or it was broken
abbrev pub StepOf : Result Bool Fault → TuplesLeft → TuplesLeft → Type 0
StepOf (Ok true) old new = rest old ≡ tuple_before new.tuple (rest new)
StepOf (Ok false) old new = rest old ≡ rest new
StepOf (Err e) old new = rest old ≡ Err e

-- a reader has read a tuple, or there was none, or it was broken
abbrev pub NextOf : Result Bool Fault → TuplesLeft → TuplesLeft → Type 0
NextOf (Ok true) old new = rest old ≡ tuple_before new.tuple (rest new)
NextOf (Ok false) old new = rest old ≡ Ok []
NextOf (Err e) old new = rest old ≡ Err e
