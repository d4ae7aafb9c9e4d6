-- The meaning of a simple glyph that was read.
use Rattle.std.proofs.Common.{◌≡◌, ℕ, zero, suc, ◌+◌, ◌*◌, ◌<◌, ◌≤◌, Bool, false, nat_lt, List, [], ◌∷◌, ◌++◌, length, map, Ok, ℤ, refl, arith, ap, sym, ◌∙◌}
use Rattle.std.specs.Prelude.{slice_index}
use Rattle.std.proofs.lemmas.Bool.Decides.{nat_tests}
use Rattle.tt_core.specs.Chains.{came-through, passed}
use Rattle.tt_core.specs.Limits.{point_limit}
use Rattle.tt_core.specs.Numbers.{unsigned_at}
use Rattle.tt_glyf.specs.declared.raw.RawPoint.{RawPoint}
use Rattle.tt_glyf.specs.Bytes.{GlyphBytes, Listing, word_in}
use Rattle.tt_glyf.specs.Coordinates.{AxisFlags, Coordinate, x_axis, y_axis, origin}
use Rattle.tt_glyf.specs.Format.{has, on_curve_point}
use Rattle.tt_glyf.specs.Meaning.{runs_end, written_flags, deltas_end, y_place, points_end, ArePoints}
use Rattle.tt_glyf.specs.Simple.{rising, end_at, ends_from, point_count, points_within, points_from, points_of}
use Rattle.tt_glyf.proofs.Chains.{came-after}
use Rattle.tt_glyf.proofs.Covers.{AreGoodRuns, AreCovered, flags-were}
use Rattle.tt_glyf.proofs.Deltas.{AreRead, coordinates-were}
use Rattle.tt_glyf.proofs.Fields.{word-was}

-- the ends rise from a number on
abbrev pub RiseFrom : ℕ → List ℕ → Type 0
RiseFrom before [] = Unit {0}
RiseFrom before (e ∷ es) = (before ≤ e) × RiseFrom e es

pub record EndsRead (bytes : List ℕ) (at n before : ℕ) (read : Listing ℕ) : Type 0 where
  pub rise : RiseFrom before read.items
  pub many : length read.items ≡ n
  pub words : (i : ℕ) → i < n → slice_index read.items i ≡ unsigned_at bytes (at + 2 * i) 2
  pub next : read.next ≡ at + 2 * n
  pub room : read.next ≤ length bytes

word-at : (bytes : List ℕ) (at e i n : ℕ) (es : List ℕ) → e ≡ unsigned_at bytes at 2
    → ((j : ℕ) → j < n → slice_index es j ≡ unsigned_at bytes (at + 2 + 2 * j) 2) → i < suc n
    → slice_index (e ∷ es) i ≡ unsigned_at bytes (at + 2 * i) 2
word-at bytes at e zero n es is words below =
    let place : at + 2 * 0 ≡ at = omega arith in
    rw place is
word-at bytes at e (suc i) n es is words below =
    let place : at + 2 * suc i ≡ at + 2 + 2 * i = omega arith in
    rw place (words i (omega arith))

ends-more : (bytes : List ℕ) (at n before e : ℕ) (rest read : Listing ℕ) → e ≡ unsigned_at bytes at 2 → before ≤ e
    → EndsRead bytes (at + 2) n e rest → read ≡ record { items = (e ∷ []) ++ rest.items; next = rest.next }
    → EndsRead bytes at (suc n) before read
ends-more bytes at n before e rest read word le are is =
    let next = are.next in
    rw is (record {
      rise = (le, are.rise);
      many = ap suc are.many;
      words = λ i below. word-at bytes at e i n rest.items word are.words below;
      next = omega arith;
      room = are.room;
    })

-- an end that was read
pub record IsEnd (g : GlyphBytes) (at before e : ℕ) : Type 0 where
  pub is : e ≡ unsigned_at g.bytes at 2
  pub rises : before ≤ e
  pub room : at + 2 ≤ length g.bytes

pub end-was : (g : GlyphBytes) (at before e : ℕ) → end_at g at before ≡ Ok e → IsEnd g at before e
unfolding end_at
end-was g at before e was =
    let through = came-through (word_in g at) (rising g at before) e was in
    let word = word-was g at through.value through.first in
    let p = passed (nat_lt through.value before) _ through.value e through.rest in
    let is : through.value ≡ e = p.1 in
    let test : nat_lt e before ≡ false = rw (← is) p.0 in
    record { is = sym is ∙ word.is; rises = grind (arith, nat_tests); room = word.room }

pub ends-were : (g : GlyphBytes) (at n before : ℕ) (read : Listing ℕ) → at ≤ length g.bytes
    → ends_from g at n before ≡ Ok read → EndsRead g.bytes at n before read
unfolding ends_from
ends-were g at zero before read le was =
    let is : read ≡ record { items = []; next = at } = cc in
    rw is (record { rise = tt; many = refl; words = λ i below. absurd (omega arith); next = omega arith; room = le })
ends-were g at (suc n) before read le was =
    let through = came-through _ _ _ was in
    let later = came-after (through.value ∷ []) (ends_from g (at + 2) n through.value) read through.rest in
    let end = end-was g at before through.value through.first in
    ends-more g.bytes at n before through.value later.read read end.is end.rises
    (ends-were g (at + 2) n through.value later.read end.room later.was) later.is

-- if each number is at least the preceding one, the list never falls
rise-from : (before : ℕ) (es : List ℕ) (j : ℕ) → RiseFrom before es → j < length es → before ≤ slice_index es j
rise-from before [] j rise below = absurd (omega arith)
rise-from before (e ∷ es) zero rise below = rise.0
rise-from before (e ∷ es) (suc j) rise below =
    let first = rise.0 in
    let further : e ≤ slice_index es j = rise-from e es j rise.1 (omega arith) in
    omega arith

pub never-falls : (before : ℕ) (es : List ℕ) (i j : ℕ) → RiseFrom before es → i ≤ j → j < length es
    → slice_index es i ≤ slice_index es j
never-falls before [] i j rise le below = absurd (omega arith)
never-falls before (e ∷ es) zero zero rise le below = omega arith
never-falls before (e ∷ es) zero (suc j) rise le below = rise-from e es j rise.1 (omega arith)
never-falls before (e ∷ es) (suc i) zero rise le below = absurd (omega arith)
never-falls before (e ∷ es) (suc i) (suc j) rise le below = never-falls e es i j rise.1 (omega arith) (omega arith)

-- the number of points
pub record CountRead (ends : List ℕ) (n : ℕ) : Type 0 where
  pub is : n ≡ point_count ends
  pub few : n ≤ point_limit

pub count-was : (g : GlyphBytes) (ends : Listing ℕ) (n : ℕ) → points_within g ends ≡ Ok n → CountRead ends.items n
unfolding points_within
count-was g ends n was =
    let p = passed _ _ _ _ was in
    let is : point_count ends.items ≡ n = p.1 in
    let test : nat_lt point_limit n ≡ false = rw (← is) p.0 in
    record { is = sym is; few = grind (arith, nat_tests) }

-- points from lists of equal length
points-xs : (flags : List ℕ) (xs ys : List ℤ) → length xs ≡ length flags → length ys ≡ length flags
    → map (λ p. p.x) (points_from flags xs ys) ≡ xs
points-xs [] [] ys lx ly = refl
points-xs [] (x ∷ xs) ys lx ly = absurd (omega arith)
points-xs (f ∷ flags) [] ys lx ly = absurd (omega arith)
points-xs (f ∷ flags) (x ∷ xs) [] lx ly = absurd (omega arith)
points-xs (f ∷ flags) (x ∷ xs) (y ∷ ys) lx ly =
    ap (λ (r : List ℤ). x ∷ r) (points-xs flags xs ys (omega arith) (omega arith))

points-ys : (flags : List ℕ) (xs ys : List ℤ) → length xs ≡ length flags → length ys ≡ length flags
    → map (λ p. p.y) (points_from flags xs ys) ≡ ys
points-ys [] xs [] lx ly = refl
points-ys [] xs (y ∷ ys) lx ly = absurd (omega arith)
points-ys (f ∷ flags) [] ys lx ly = absurd (omega arith)
points-ys (f ∷ flags) (x ∷ xs) [] lx ly = absurd (omega arith)
points-ys (f ∷ flags) (x ∷ xs) (y ∷ ys) lx ly =
    ap (λ (r : List ℤ). y ∷ r) (points-ys flags xs ys (omega arith) (omega arith))

points-on : (flags : List ℕ) (xs ys : List ℤ) → length xs ≡ length flags → length ys ≡ length flags
    → map (λ p. p.on) (points_from flags xs ys) ≡ map (λ flag. has flag on_curve_point) flags
points-on [] xs ys lx ly = refl
points-on (f ∷ flags) [] ys lx ly = absurd (omega arith)
points-on (f ∷ flags) (x ∷ xs) [] lx ly = absurd (omega arith)
points-on (f ∷ flags) (x ∷ xs) (y ∷ ys) lx ly =
    ap (λ (r : List Bool). has f on_curve_point ∷ r) (points-on flags xs ys (omega arith) (omega arith))

points-many : (flags : List ℕ) (xs ys : List ℤ) → length xs ≡ length flags → length ys ≡ length flags
    → length (points_from flags xs ys) ≡ length flags
points-many [] xs ys lx ly = refl
points-many (f ∷ flags) [] ys lx ly = absurd (omega arith)
points-many (f ∷ flags) (x ∷ xs) [] lx ly = absurd (omega arith)
points-many (f ∷ flags) (x ∷ xs) (y ∷ ys) lx ly = ap suc (points-many flags xs ys (omega arith) (omega arith))

-- the points that were read: their flags by runs, and their deltas and sums along each axis
pub record PointsRead (bytes : List ℕ) (at n : ℕ) (points : List RawPoint) : Type 0 where
  pub many : length points ≡ n
  pub runs : ℕ
  pub covers : length (written_flags bytes at runs) ≡ n
  pub good : AreGoodRuns bytes at n
  pub xs : AreRead bytes x_axis (written_flags bytes at runs) (origin (runs_end bytes at runs))
      (record { items = map (λ p. p.x) points; next = y_place bytes at runs })
  pub ys : AreRead bytes y_axis (written_flags bytes at runs) (origin (y_place bytes at runs))
      (record { items = map (λ p. p.y) points; next = points_end bytes at runs })
  pub on : map (λ p. p.on) points ≡ map (λ flag. has flag on_curve_point) (written_flags bytes at runs)

-- a list read along an axis, with its items rewritten
read-as : (bytes : List ℕ) (a : AxisFlags) (flags : List ℕ) (before : Coordinate) (read : Listing ℤ) (items : List ℤ)
    → AreRead bytes a flags before read → items ≡ read.items
    → AreRead bytes a flags before (record { items = items; next = deltas_end bytes a flags before.next })
read-as bytes a flags before read items are is =
    let next = are.next in
    rw is (rw next at are)

points-make : (bytes : List ℕ) (at n runs : ℕ) (xs ys : Listing ℤ) → length (written_flags bytes at runs) ≡ n
    → AreGoodRuns bytes at n → AreRead bytes x_axis (written_flags bytes at runs) (origin (runs_end bytes at runs)) xs
    → AreRead bytes y_axis (written_flags bytes at runs) (origin xs.next) ys
    → PointsRead bytes at n (points_from (written_flags bytes at runs) xs.items ys.items)
points-make bytes at n runs xs ys covers good cx cy =
    let flags = written_flags bytes at runs in
    let lx = cx.many in
    let ly = cy.many in
    let later : AreRead bytes y_axis flags (origin (y_place bytes at runs)) ys = rw cx.next at cy in
    record {
      many = points-many flags xs.items ys.items lx ly ∙ covers;
      runs = runs;
      covers = covers;
      good = good;
      xs = read-as bytes x_axis flags (origin (runs_end bytes at runs)) xs _ cx
          (points-xs flags xs.items ys.items lx ly);
      ys = read-as bytes y_axis flags (origin (y_place bytes at runs)) ys _ later
          (points-ys flags xs.items ys.items lx ly);
      on = points-on flags xs.items ys.items lx ly;
    }

all-of : (n : ℕ) → n ≤ n
all-of n = omega arith

-- the flags are those in the bytes
points-by : (bytes : List ℕ) (at n : ℕ) (flags : Listing ℕ) (xs ys : Listing ℤ) → AreCovered bytes at n flags
    → AreRead bytes x_axis flags.items (origin flags.next) xs → AreRead bytes y_axis flags.items (origin xs.next) ys
    → PointsRead bytes at n (points_from flags.items xs.items ys.items)
points-by bytes at n flags xs ys f cx cy =
    let covers = f.covers in
    let end = f.end in
    rw covers (points-make bytes at n f.runs xs ys f.many f.good (rw (covers, end) at cx) (rw covers at cy))

pub points-were : (g : GlyphBytes) (at n : ℕ) (points : List RawPoint) → at ≤ length g.bytes
    → points_of g at n ≡ Ok points → PointsRead g.bytes at n points
unfolding points_of
points-were g at n points le was =
    let by_flags = came-through _ _ _ was in
    let by_xs = came-through _ _ _ by_flags.rest in
    let by_ys = came-through _ _ _ by_xs.rest in
    let flags = by_flags.value in
    let xs = by_xs.value in
    let ys = by_ys.value in
    let is : points_from flags.items xs.items ys.items ≡ points = cc by_ys.rest in
    let f = flags-were n g at n flags (all-of n) le by_flags.first in
    let x = coordinates-were g x_axis flags.items (origin flags.next) xs f.room by_xs.first in
    let y = coordinates-were g y_axis flags.items (origin xs.next) ys x.room by_ys.first in
    rw (← is) (points-by g.bytes at n flags xs ys f x y)

pub points-are : (bytes : List ℕ) (at n : ℕ) (points : List RawPoint) → PointsRead bytes at n points
    → ArePoints bytes at points
points-are bytes at n points read =
    record { runs = read.runs; on = read.on; xs = read.xs.sums; ys = read.ys.sums; within = read.ys.room }
