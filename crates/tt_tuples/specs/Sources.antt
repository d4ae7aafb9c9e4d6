-- The source of a reader of tuples, and the data of a tuple.
use Rattle.std.specs.Prelude.{◌≡◌, ℕ, ◌<◌, ◌≤◌, ℤ, List, length, slice_index, All}
use Rattle.tt_tuples.specs.declared.source.TupleTable.{TupleTable}
use Rattle.tt_tuples.specs.declared.source.TupleTable.TheVariants as table
use Rattle.tt_tuples.specs.Bytes.{TupleStore}
use Rattle.tt_tuples.specs.PointNumbers.{TuplePoints, all_points, listed}

-- the data of a glyph in gvar, or all of cvar; gvar's shared tuples; the coordinates of the instance; how many points there
-- are, with the phantom ones, or control values
pub record Source : Type 0 where
  pub store : TupleStore
  pub shared : List ℕ
  pub coordinates : List ℤ
  pub points : ℕ

-- a tuple that holds: how much of it, in 1/65536, its points, and their deltas along x and y, or those of control values
pub record Tuple : Type 0 where
  pub share : ℕ
  pub points : TuplePoints
  pub xs : List ℤ
  pub ys : List ℤ

-- how many deltas a list has
abbrev pub delta_count : TuplePoints → ℕ → ℕ
delta_count all_points points = points
delta_count (listed numbers) points = length numbers

-- how many deltas the second list has
abbrev pub second_count : TupleTable → ℕ → ℕ
second_count table.Gvar count = count
second_count table.Cvar count = 0

-- each number is above those before it
abbrev pub Rises : List ℕ → Type 0
Rises ns = (i j : ℕ) → i < j → j < length ns → slice_index ns i < slice_index ns j

-- numbers of points are no more than there are points, rise, and have 16 bits
pub record IsList (points : ℕ) (ns : List ℕ) : Type 0 where
  pub few : length ns ≤ points
  pub rises : Rises ns
  pub words : All (λ n. n < 65536) ns

abbrev pub AreNumbers : ℕ → TuplePoints → Type 0
AreNumbers points all_points = Unit {0}
AreNumbers points (listed ns) = IsList points ns

-- each tuple that is read has these properties
pub record IsTuple (s : Source) (t : Tuple) : Type 0 where
  pub some : 0 < t.share
  pub most : t.share ≤ 65536
  pub numbers : AreNumbers s.points t.points
  pub xs : length t.xs ≡ delta_count t.points s.points
  pub ys : length t.ys ≡ second_count s.store.table (delta_count t.points s.points)
