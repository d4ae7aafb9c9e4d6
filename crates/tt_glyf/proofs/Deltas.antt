-- A coordinate is the sum of all deltas up to it.
use Rattle.std.proofs.Common.{◌≡◌, ℕ, zero, suc, ◌+◌, ◌<◌, ◌≤◌, Bool, true, false, if◌then◌else◌, List, [], ◌∷◌, ◌++◌, length, get_or, take, fold, Ok, ℤ, pos, ◌+ℤ◌, refl, arith, add-one, ap}
use Rattle.std.specs.Prelude.{slice_index}
use Rattle.tt_core.specs.Chains.{came-through, passed-else}
use Rattle.tt_core.specs.Numbers.{unsigned_at, signed16}
use Rattle.tt_core.specs.Outcomes.{◌>>=◌}
use Rattle.tt_glyf.specs.Bytes.{GlyphBytes, Listing, byte_in, signed_in}
use Rattle.tt_glyf.specs.Coordinates.{AxisFlags, Delta, Coordinate, delta_at, summed, is_coordinate, within_words, coordinate_at, coordinates_from, short_delta}
use Rattle.tt_glyf.specs.Format.{has}
use Rattle.tt_glyf.specs.Meaning.{written_delta, deltas, deltas_end, AreSums}
use Rattle.tt_glyf.proofs.Chains.{came-after}
use Rattle.tt_glyf.proofs.Fields.{IsField, byte-was, signed-was}

-- a delta that was read is the one in the bytes
delta-cases : (g : GlyphBytes) (at : ℕ) (short same : Bool) (d : Delta) → at ≤ length g.bytes
    → (if short then (byte_in g at >>= λ byte. Ok (record { by = short_delta same byte; next = at + 1 }))
    else (if same then Ok (record { by = pos 0; next = at })
    else (signed_in g at >>= λ word. Ok (record { by = word; next = at + 2 })))) ≡ Ok d
    → IsField g d.next d (if short then record { by = short_delta same (slice_index g.bytes at); next = at + 1 }
    else (if same then record { by = pos 0; next = at } else record {
      by = signed16 (unsigned_at g.bytes at 2);
      next = at + 2;
    }))
delta-cases g at true same d le was =
    let through = came-through _ _ _ was in
    let byte = byte-was g at through.value through.first in
    let value = byte.is in
    let is : ◌≡◌ {A = Delta} (record { by = short_delta same through.value; next = at + 1 }) d = cc through.rest in
    rw (← is) (record { is = rw (← value) refl; room = byte.room })
delta-cases g at false true d le was =
    let is : ◌≡◌ {A = Delta} (record { by = pos 0; next = at }) d = cc in
    rw (← is) (record { is = refl; room = le })
delta-cases g at false false d le was =
    let through = came-through _ _ _ was in
    let word = signed-was g at through.value through.first in
    let value = word.is in
    let is : ◌≡◌ {A = Delta} (record { by = through.value; next = at + 2 }) d = cc through.rest in
    rw (← is) (record { is = rw (← value) refl; room = word.room })

pub delta-was : (g : GlyphBytes) (a : AxisFlags) (flag at : ℕ) (d : Delta) → at ≤ length g.bytes → delta_at g a flag at ≡ Ok d
    → IsField g d.next d (written_delta g.bytes a flag at)
unfolding delta_at
delta-was g a flag at d le was = delta-cases g at (has flag a.short) (has flag a.same) d le was

-- a coordinate that was read is the preceding one plus the delta, and fits
pub record IsNext (g : GlyphBytes) (a : AxisFlags) (flag : ℕ) (before c : Coordinate) : Type 0 where
  pub is : c ≡ summed before (written_delta g.bytes a flag before.next)
  pub fits : is_coordinate c.value ≡ true
  pub room : c.next ≤ length g.bytes

pub coordinate-was : (g : GlyphBytes) (a : AxisFlags) (flag : ℕ) (before c : Coordinate) → before.next ≤ length g.bytes
    → coordinate_at g a flag before ≡ Ok c → IsNext g a flag before c
unfolding coordinate_at within_words
coordinate-was g a flag before c le was =
    let through = came-through (delta_at g a flag before.next) _ c was in
    let d = delta-was g a flag before.next through.value le through.first in
    let p = passed-else (is_coordinate (summed before through.value).value) _ (summed before through.value) c
    through.rest in
    rw (← p.1) (record { is = ap (summed before) d.is; fits = p.0; room = d.room })

-- the coordinates read along an axis
pub record AreRead (bytes : List ℕ) (a : AxisFlags) (flags : List ℕ) (before : Coordinate) (read : Listing ℤ) : Type 0 where
  pub many : length read.items ≡ length flags
  pub next : read.next ≡ deltas_end bytes a flags before.next
  pub sums : AreSums before.value read.items (deltas bytes a flags before.next)
  pub fit : (i : ℕ) → i < length flags → is_coordinate (fold ◌+ℤ◌ before.value
      (take (i + 1) (deltas bytes a flags before.next))) ≡ true
  pub room : read.next ≤ length bytes

sums-at : (from by : ℤ) (vs ds : List ℤ) (i : ℕ) → AreSums (from +ℤ by) vs ds → i < suc (length vs)
    → get_or ((from +ℤ by) ∷ vs) i (pos 0) ≡ fold ◌+ℤ◌ from (take (i + 1) (by ∷ ds))
sums-at from by vs ds zero are below = refl
sums-at from by vs ds (suc i) are below =
    let h = rw (add-one i) at (are.sums i (omega arith)) in
    rw (add-one (suc i)) h

sums-more : (from by : ℤ) (vs ds : List ℤ) → AreSums (from +ℤ by) vs ds → AreSums from ((from +ℤ by) ∷ vs) (by ∷ ds)
sums-more from by vs ds are = record { many = ap suc are.many; sums = λ i below. sums-at from by vs ds i are below }

fit-at : (from by : ℤ) (ds : List ℤ) (n i : ℕ) → is_coordinate (from +ℤ by) ≡ true
    → ((j : ℕ) → j < n → is_coordinate (fold ◌+ℤ◌ (from +ℤ by) (take (j + 1) ds)) ≡ true) → i < suc n
    → is_coordinate (fold ◌+ℤ◌ from (take (i + 1) (by ∷ ds))) ≡ true
fit-at from by ds n zero first fit below = first
fit-at from by ds n (suc i) first fit below =
    let h = rw (add-one i) at (fit i (omega arith)) in
    rw (add-one (suc i)) h

read-more : (bytes : List ℕ) (a : AxisFlags) (flag : ℕ) (flags : List ℕ) (before c : Coordinate) (rest read : Listing ℤ)
    → c ≡ summed before (written_delta bytes a flag before.next) → is_coordinate c.value ≡ true
    → AreRead bytes a flags c rest → read ≡ record { items = (c.value ∷ []) ++ rest.items; next = rest.next }
    → AreRead bytes a (flag ∷ flags) before read
read-more bytes a flag flags before c rest read is fits are whole =
    let first : is_coordinate (summed before (written_delta bytes a flag before.next)).value ≡ true = rw is at fits in
    let more : AreRead bytes a flags (summed before (written_delta bytes a flag before.next)) rest = rw is at are in
    rw (whole, is) (record {
      many = ap suc more.many;
      next = more.next;
      sums = sums-more _ _ _ _ more.sums;
      fit = λ i below. fit-at _ _ _ (length flags) i first more.fit below;
      room = more.room;
    })

pub coordinates-were : (g : GlyphBytes) (a : AxisFlags) (flags : List ℕ) (before : Coordinate) (read : Listing ℤ)
    → before.next ≤ length g.bytes → coordinates_from g a flags before ≡ Ok read → AreRead g.bytes a flags before read
unfolding coordinates_from
coordinates-were g a [] before read le was =
    let is : read ≡ record { items = []; next = before.next } = cc in
    rw is (record {
      many = refl;
      next = refl;
      sums = record { many = refl; sums = λ i below. absurd (omega arith) };
      fit = λ i below. absurd (omega arith);
      room = le;
    })
coordinates-were g a (flag ∷ flags) before read le was =
    let through = came-through _ _ _ was in
    let later = came-after (through.value.value ∷ []) (coordinates_from g a flags through.value) read through.rest in
    let next = coordinate-was g a flag before through.value le through.first in
    read-more g.bytes a flag flags before through.value later.read read next.is next.fits
    (coordinates-were g a flags through.value later.read next.room later.was) later.is
