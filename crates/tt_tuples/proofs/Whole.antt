-- All tuples that are read are whole.
use Rattle.std.proofs.Common.{◌≡◌, ℕ, zero, suc, ◌+◌, ◌<◌, ◌≤◌, ◌==◌, nat_le, nat_lt, if◌then◌else◌, Bool, true, false, ℤ, Some, List, [], ◌∷◌, length, Result, Ok, Err, All, refl, arith, ap, sym}
use Rattle.std.proofs.lemmas.Bool.Decides.{nat_tests}
use Rattle.std.proofs.lemmas.List.Elements.{All-cons, All-nil}
use Rattle.tt_axes.specs.Shares.{SharesFall}
use Rattle.tt_core.specs.Chains.{came-through, passed-else, passed-on}
use Rattle.tt_core.specs.Numbers.{number_at, unsigned_at}
use Rattle.tt_core.specs.Outcomes.{◌>>=◌}
use Rattle.tt_core.specs.Faults.{Fault}
use Rattle.tt_tuples.specs.declared.source.TupleTable.{TupleTable}
use Rattle.tt_tuples.specs.declared.source.TupleTable.TheVariants as table
use Rattle.tt_tuples.specs.Bytes.{TupleStore, Read, byte_in, word_in}
use Rattle.tt_tuples.specs.Deltas.{DeltaRun, deltas_at, deltas_from, next_delta}
use Rattle.tt_tuples.specs.Headers.{TupleStoreHeader, TupleHeader, header_at, header_place, peak_at, sides_at, tuple_count, tuple_header_at, tuples_told}
use Rattle.tt_tuples.specs.PointNumbers.{TuplePoints, all_points, as_listed, count_at, listed, listed_at, numbers_at, points_at}
use Rattle.tt_tuples.specs.Regions.{share_of}
use Rattle.tt_tuples.specs.Sources.{AreNumbers, IsTuple, Source, Tuple, delta_count, second_count}
use Rattle.tt_tuples.specs.Tuples.{second_deltas, shared_points_of, tuple_at, tuple_before, tuple_points, tuples_from, tuples_of}
use Rattle.tt_tuples.proofs.Axes.{part-holds}
use Rattle.tt_tuples.proofs.Chains.{came-after}
use Rattle.tt_tuples.proofs.Rising.{numbers-rise}

-- as many deltas are read as are asked for
deltas-count : (b : TupleStore) (count : ℕ) (r : DeltaRun) (read : Read (List ℤ)) → deltas_from b count r ≡ Ok read
    → length read.value ≡ count
unfolding deltas_from
deltas-count b zero r read was =
    let none : read.value ≡ [] = cc in
    rw none refl
deltas-count b (suc count) r read was =
    let first = came-through (next_delta b r (suc count)) _ read was in
    let d = first.value in
    let others = came-after (d.delta ∷ []) (deltas_from b count d.run) read first.rest in
    let is : read.value ≡ d.delta ∷ others.read.value = ap (λ (y : Read (List ℤ)). y.value) others.is in
    let more = deltas-count b count d.run others.read others.was in
    rw is (omega arith)

second-count : (t : TupleTable) (b : TupleStore) (at count : ℕ) (read : Read (List ℤ)) → second_deltas t b at count ≡ Ok read
    → length read.value ≡ second_count t count
second-count table.Gvar b at count read was = deltas-count b count _ read was
second-count table.Cvar b at count read was =
    let none : read.value ≡ [] = cc in
    rw none refl

-- a list that is read, as points
listed-by : (points : ℕ) (x : Result (Read (List ℕ)) Fault) (read : Read TuplePoints) → as_listed x ≡ Ok read
    → ((l : Read (List ℕ)) → x ≡ Ok l → AreNumbers points (listed l.value)) → AreNumbers points read.value
listed-by points (Ok l) read was holds =
    let is : listed l.value ≡ read.value = cc in
    rw (← is) (holds l refl)
listed-by points (Err e) read was holds = absurd cc

fits : (points count : ℕ) → nat_lt points count ≡ false → count ≤ points
fits points count test = grind (arith, nat_tests)

listed-whole : (b : TupleStore) (at points : ℕ) (read : Read TuplePoints) → listed_at b at points ≡ Ok read
    → AreNumbers points read.value
unfolding listed_at
listed-whole b at points read was =
    let count = came-through (count_at b at) _ read was in
    let n = count.value in
    let passed = passed-on (nat_lt points n.value) _ (as_listed (numbers_at b n.next n.value)) read count.rest in
    listed-by points (numbers_at b n.next n.value) read passed.1
    (λ l is. numbers-rise b n.next n.value points l is (fits points n.value passed.0))

points-by : (points : ℕ) (all : Bool) (v read : Read TuplePoints) (y : Result (Read TuplePoints) Fault) → v.value ≡ all_points
    → (if all then Ok v else y) ≡ Ok read → (y ≡ Ok read → AreNumbers points read.value) → AreNumbers points read.value
points-by points true v read y is was holds =
    let same : v ≡ read = cc in
    let none : read.value ≡ all_points = rw same at is in
    rw none tt
points-by points false v read y is was holds = holds was

points-whole : (b : TupleStore) (at points : ℕ) (read : Read TuplePoints) → points_at b at points ≡ Ok read
    → AreNumbers points read.value
unfolding points_at
points-whole b at points read was =
    let first = came-through (byte_in b at) _ read was in
    points-by points (first.value == 0) (record { value = all_points; next = at + 1 }) read (listed_at b at points) refl
    first.rest (listed-whole b at points read)

nothing-shared : (points : ℕ) → AreNumbers points (listed [])
nothing-shared points = record {
  few = omega arith;
  rises = λ i j less within. absurd (omega arith);
  words = All-nil (λ n. n < 65536);
}

shared-by : (s : Source) (h : TupleStoreHeader) (shares : Bool) (read : Read TuplePoints)
    → (if shares then points_at s.store h.data_at s.points else Ok (record { value = listed []; next = h.data_at }))
    ≡ Ok read → AreNumbers s.points read.value
shared-by s h true read was = points-whole s.store h.data_at s.points read was
shared-by s h false read was =
    let none : listed [] ≡ read.value = cc in
    rw (← none) (nothing-shared s.points)

shared-whole : (s : Source) (h : TupleStoreHeader) (read : Read TuplePoints) → shared_points_of s h ≡ Ok read
    → AreNumbers s.points read.value
unfolding shared_points_of
shared-whole s h read was = shared-by s h h.shares_points read was

own-whole : (s : Source) (shared : TuplePoints) (own : Bool) (at : ℕ) (read : Read TuplePoints) → AreNumbers s.points shared
    → tuple_points s shared own at ≡ Ok read → AreNumbers s.points read.value
own-whole s shared true at read whole was = points-whole s.store at s.points read was
own-whole s shared false at read whole was =
    let is : shared ≡ read.value = cc in
    rw (← is) whole

tuple-whole : (s : Source) (shared : TuplePoints) (h : TupleHeader) (at : ℕ) (t : Tuple) → AreNumbers s.points shared
    → 0 < h.share → h.share ≤ 65536 → tuple_at s shared h at ≡ Ok t → IsTuple s t
unfolding tuple_at
tuple-whole s shared h at t whole some most was =
    let points = came-through (tuple_points s shared h.own_points at) _ t was in
    let n = delta_count points.value.value s.points in
    let xs = came-through (deltas_at s.store points.value.next n) _ t points.rest in
    let ys = came-through (second_deltas s.store.table s.store xs.value.next n) _ t xs.rest in
    let is : record { share = h.share; points = points.value.value; xs = xs.value.value; ys = ys.value.value } ≡ t =
    cc (ys.rest) in
    rw (← is) (record {
      some = some;
      most = most;
      numbers = own-whole s shared h.own_points at points.value whole points.first;
      xs = deltas-count s.store n _ xs.value xs.first;
      ys = second-count s.store.table s.store xs.value.next n ys.value ys.first;
    })

share-most : SharesFall → (s : Source) (at : ℕ) (h : TupleHeader) → tuple_header_at s at ≡ Ok h → h.share ≤ 65536
unfolding tuple_header_at
share-most falls s at h was =
    let size = came-through (word_in s.store at) _ h was in
    let index = came-through (word_in s.store (at + 2)) _ h size.rest in
    let peak = came-through (peak_at s at index.value) _ h index.rest in
    let sides = came-through (sides_at s peak.value.next index.value) _ h peak.rest in
    let share : share_of s.coordinates (record { peak = peak.value.value; sides = sides.value.value }) ≡ h.share =
    cc (sides.rest) in
    rw (← share) (part-holds falls s.coordinates (record { peak = peak.value.value; sides = sides.value.value })
    (length s.coordinates))

-- tuples that are whole, and at most so many
abbrev AreWhole : Source → ℕ → List Tuple → Type 0
AreWhole s most ts = All (IsTuple s) ts × (length ts ≤ most)

more-whole : (s : Source) (most : ℕ) (ts : List Tuple) → AreWhole s most ts → AreWhole s (suc most) ts
more-whole s most ts whole = (whole.0, omega (arith, whole.1))

-- a tuple that holds, and those after it
held-whole : (s : Source) (most : ℕ) (x : Result Tuple Fault) (others : Result (List Tuple) Fault) (ts : List Tuple)
    → (x >>= λ t. tuple_before t others) ≡ Ok ts → ((t : Tuple) → x ≡ Ok t → IsTuple s t)
    → ((us : List Tuple) → others ≡ Ok us → AreWhole s most us) → AreWhole s (suc most) ts
held-whole s most x others ts was first rest =
    let t = came-through x _ ts was in
    let us = came-through others _ ts t.rest in
    let is : t.value ∷ us.value ≡ ts = cc (us.rest) in
    let whole = rest us.value us.first in
    rw (← is) (All-cons (IsTuple s) t.value us.value (first t.value t.first) whole.0, omega (arith, whole.1))

some : (n : ℕ) → (n == 0) ≡ false → 0 < n
some n test = grind (arith, nat_tests)

step-whole : (s : Source) (most : ℕ) (x : Result Tuple Fault) (others : Result (List Tuple) Fault) (ts : List Tuple)
    (none : Bool) → (if none then others else (x >>= λ t. tuple_before t others)) ≡ Ok ts
    → (none ≡ false → (t : Tuple) → x ≡ Ok t → IsTuple s t)
    → ((us : List Tuple) → others ≡ Ok us → AreWhole s most us) → AreWhole s (suc most) ts
step-whole s most x others ts true was first rest = more-whole s most ts (rest ts was)
step-whole s most x others ts false was first rest = held-whole s most x others ts was (first refl) rest

tuples-whole : SharesFall → (s : Source) (shared : TuplePoints) (left at data_at : ℕ) (ts : List Tuple)
    → AreNumbers s.points shared → tuples_from s shared left at data_at ≡ Ok ts → AreWhole s left ts
unfolding tuples_from
tuples-whole falls s shared zero at data_at ts whole was =
    let none : [] ≡ ts = cc in
    rw (← none) (All-nil (IsTuple s), omega arith)
tuples-whole falls s shared (suc left) at data_at ts whole was =
    let h = came-through (tuple_header_at s at) _ ts was in
    let most = share-most falls s at h.value h.first in
    step-whole s left (tuple_at s shared h.value data_at)
    (tuples_from s shared left h.value.next (data_at + h.value.size)) ts (h.value.share == 0) h.rest
    (λ test t is. tuple-whole s shared h.value data_at t whole (some h.value.share test) most is)
    (λ us is. tuples-whole falls s shared left h.value.next (data_at + h.value.size) us whole is)

word-there : (b : TupleStore) (at n : ℕ) → word_in b at ≡ Ok n → number_at b.bytes at 2 ≡ Some n
unfolding word_in
word-there b at n was =
    let p = passed-else (nat_le (at + 2) (length b.bytes)) _ (unsigned_at b.bytes at 2) n was in
    rw (p.0, p.1) refl

-- the header tells the count
told-count : (s : Source) (h : TupleStoreHeader) → header_at s.store (header_place s.store.table) ≡ Ok h
    → h.tuples ≡ tuple_count s.store.table s.store.bytes
unfolding header_at tuple_count
told-count s h was =
    let count = came-through (word_in s.store (header_place s.store.table)) _ h was in
    let offset = came-through (word_in s.store (header_place s.store.table + 2)) _ h count.rest in
    let passed = passed-on (nat_lt (length s.store.bytes) offset.value) _ _ h offset.rest in
    let is : tuples_told count.value ≡ h.tuples = cc (passed.1) in
    rw (word-there s.store (header_place s.store.table) count.value count.first) (sym is)

pub all-whole : SharesFall → (s : Source) (ts : List Tuple) → tuples_of s ≡ Ok ts
    → All (IsTuple s) ts × (length ts ≤ tuple_count s.store.table s.store.bytes)
unfolding tuples_of
all-whole falls s ts was =
    let h = came-through (header_at s.store (header_place s.store.table)) _ ts was in
    let shared = came-through (shared_points_of s h.value) _ ts h.rest in
    let whole = tuples-whole falls s shared.value.value h.value.tuples _ _ ts
    (shared-whole s h.value shared.value shared.first) shared.rest in
    rw (← told-count s h.value h.first) whole
