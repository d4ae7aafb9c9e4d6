-- A glyph is refused for a defect that exists: the one that the fault names.
use Rattle.std.proofs.Common.{◌≡◌, ℕ, zero, suc, ◌+◌, ◌-◌, ◌<◌, ◌≤◌, Bool, true, false, nat_lt, if◌then◌else◌, List, [], ◌∷◌, length, take, fold, Result, Ok, Err, inl, inr, ℤ, pos, ◌+ℤ◌, refl, arith, add-one, ap, zero-add, ◌∙◌}
use Rattle.std.specs.Prelude.{◌⊎◌, slice_index}
use Rattle.std.proofs.Math.ListN.{replicate}
use Rattle.std.proofs.lemmas.Bool.Decides.{nat_tests}
use Rattle.tt_core.specs.Chains.{was-err, failed, failed-else}
use Rattle.tt_core.specs.Faults.{Fault}
use Rattle.tt_core.specs.declared.fault.Why.TheVariants as why
use Rattle.tt_core.specs.Limits.{point_limit}
use Rattle.tt_core.specs.Numbers.{unsigned_at, signed16}
use Rattle.tt_core.specs.Outcomes.{◌>>=◌}
use Rattle.tt_glyf.specs.Bytes.{GlyphBytes, Listing, byte_in, word_in, signed_in, slice_in, glyph_fault, short, after}
use Rattle.tt_glyf.specs.Coordinates.{AxisFlags, Coordinate, Delta, x_axis, y_axis, origin, short_delta, delta_at, summed, is_coordinate, within_words, coordinate_at, coordinates_from}
use Rattle.tt_glyf.specs.Defects.{IsCut, IsFallingEnd, IsManyPoints, written_points, IsBadRun, IsFlagDefect, IsCoordinateDefect, IsSimpleDefect}
use Rattle.tt_glyf.specs.Flags.{Run, run_within, run_at, flags_from}
use Rattle.tt_glyf.specs.Format.{has, repeat_flag, end_place, size_place}
use Rattle.tt_glyf.specs.Meaning.{written_end, flags_place, written_run, runs_end, written_flags, written_delta, deltas, deltas_end, y_place, points_end}
use Rattle.tt_glyf.specs.Simple.{rising, end_at, ends_from, ends_of, point_count, points_within, points_of, simple_of}
use Rattle.tt_glyf.proofs.Chains.{after-err}
use Rattle.tt_glyf.proofs.Covers.{IsRead, run-was, flags-length, AreCovered, flags-were}
use Rattle.tt_glyf.proofs.Deltas.{coordinate-was, AreRead, delta-was, coordinates-were}
use Rattle.tt_glyf.proofs.Fields.{IsShort, byte-was, byte-short, word-was, word-short, signed-short, slice-short}
use Rattle.tt_glyf.proofs.Outlines.{EndsRead, end-was, ends-were, count-was}
use Rattle.tt_glyf.proofs.Places.{slice-was}

pub cut : (g : GlyphBytes) (end later : ℕ) (f : Fault) → end ≤ later → IsShort g end f → IsCut g later f
cut g end later f le s =
    let ends = s.ends in
    (omega arith, s.is)

further : (g : GlyphBytes) (end later : ℕ) (f : Fault) → end ≤ later → IsCut g end f → IsCut g later f
further g end later f le s =
    let ends = s.0 in
    (omega arith, s.1)

-- the ends of the contours
IsEndDefect : GlyphBytes → ℕ → ℕ → Fault → Type 0
IsEndDefect g at before f =
    IsCut g (at + 2) f ⊎ ((at + 2 ≤ length g.bytes) × (unsigned_at g.bytes at 2 < before)
    × (f ≡ glyph_fault g at why.ContourOrder))

end-broke : (g : GlyphBytes) (at before : ℕ) (f : Fault) → end_at g at before ≡ Err f → IsEndDefect g at before f
unfolding end_at IsEndDefect
end-broke g at before f was = elim (was-err (word_in g at) (rising g at before) f was) [
  | inl here ↦ let s = word-short g at f here in inl (s.ends, s.is)
  | inr later ↦
      let word = word-was g at later.value later.first in
      let p = failed (nat_lt later.value before) _ later.value f later.rest in
      let test : nat_lt (unsigned_at g.bytes at 2) before ≡ true = rw word.is at p.0 in
      inr (word.room, grind (arith, nat_tests), p.1)
]

-- the end of the preceding contour, 0 for the first
abbrev end_before : List ℕ → ℕ → ℕ
end_before bytes zero = 0
end_before bytes (suc i) = written_end bytes i

abbrev AreEndsBad : GlyphBytes → ℕ → Fault → Type 0
AreEndsBad g contours f = IsCut g (size_place contours) f ⊎ IsFallingEnd g contours f

end-falls : (g : GlyphBytes) (i contours : ℕ) (f : Fault) → i < contours
    → IsEndDefect g (end_place i) (end_before g.bytes i) f → AreEndsBad g contours f
unfolding IsEndDefect
end-falls g zero contours f within bad = elim bad [
  | inl here ↦ inl (further g (end_place 0 + 2) (size_place contours) f (omega arith) here)
  | inr falls ↦ let below = falls.1 in absurd (omega arith)
]
end-falls g (suc i) contours f within bad = elim bad [
  | inl here ↦ inl (further g (end_place (suc i) + 2) (size_place contours) f (omega arith) here)
  | inr falls ↦ inr (i, omega arith, rw (add-one i) falls.0, rw (add-one i) falls.1, rw (add-one i) falls.2)
]

pub ends-broke : (g : GlyphBytes) (i n before contours : ℕ) (f : Fault) → i + n ≡ contours → before ≡ end_before g.bytes i
    → ends_from g (end_place i) n before ≡ Err f → AreEndsBad g contours f
unfolding ends_from
ends-broke g i zero before contours f total last was = absurd cc
ends-broke g i (suc n) before contours f total last was = elim (was-err (end_at g (end_place i) before) _ f was) [
  | inl here ↦ end-falls g i contours f (omega arith) (rw last at (end-broke g (end_place i) before f here))
  | inr later ↦
      let end = end-was g (end_place i) before later.value later.first in
      let place : end_place i + 2 ≡ end_place (suc i) = omega arith in
      let rest = after-err (later.value ∷ []) _ f later.rest in
      ends-broke g (suc i) n later.value contours f (omega arith) end.is (rw place at rest)
]

-- the runs of flags
abbrev run_as : List ℕ → ℕ → ℕ → Bool → Run
run_as bytes at flag repeats =
    if repeats then record { flag = flag; copies = slice_index bytes (at + 1); next = at + 2 }
    else record { flag = flag; copies = 0; next = at + 1 }

abbrev IsBadAs : GlyphBytes → ℕ → ℕ → Run → Fault → Type 0
IsBadAs g at left r f = IsCut g r.next f ⊎ ((left ≤ r.copies) × (f ≡ glyph_fault g at why.FlagRun))

run-broke-cases : (g : GlyphBytes) (at left flag : ℕ) (repeats : Bool) (f : Fault)
    → (if repeats then (byte_in g (at + 1) >>= λ copies. run_within g at left
    (record { flag = flag; copies = copies; next = at + 2 }))
    else Ok (record { flag = flag; copies = 0; next = at + 1 })) ≡ Err f
    → IsBadAs g at left (run_as g.bytes at flag repeats) f
run-broke-cases g at left flag true f was = elim (was-err (byte_in g (at + 1)) _ f was) [
  | inl here ↦ inl (cut g (at + 1 + 1) (at + 2) f (omega arith) (byte-short g (at + 1) f here))
  | inr later ↦
      let byte = byte-was g (at + 1) later.value later.first in
      let p = failed-else (nat_lt later.value left) _ (record { flag = flag; copies = later.value; next = at + 2 }) f
      later.rest in
      let test : nat_lt (slice_index g.bytes (at + 1)) left ≡ false = rw byte.is at p.0 in
      inr (grind (arith, nat_tests), p.1)
]
run-broke-cases g at left flag false f was = absurd cc

run-goes-on : (bytes : List ℕ) (at flag : ℕ) (repeats : Bool) → at + 1 ≤ (run_as bytes at flag repeats).next
run-goes-on bytes at flag true = omega arith
run-goes-on bytes at flag false = omega arith

run-broke : (g : GlyphBytes) (at left : ℕ) (f : Fault) → run_at g at left ≡ Err f → IsBadRun g at left f
unfolding run_at
run-broke g at left f was = elim (was-err (byte_in g at) _ f was) [
  | inl here ↦ inl (cut g (at + 1) (written_run g.bytes at).next f
      (run-goes-on g.bytes at (slice_index g.bytes at) (has (slice_index g.bytes at) repeat_flag))
      (byte-short g at f here))
  | inr later ↦
      let flag = byte-was g at later.value later.first in
      rw flag.is at (run-broke-cases g at left later.value (has later.value repeat_flag) f later.rest)
]

flags-first : (g : GlyphBytes) (at left : ℕ) (f : Fault) → IsBadRun g at (suc left) f → IsFlagDefect g at (suc left) f
flags-first g at left f bad =
    let all : suc left - 0 ≡ suc left = omega arith in
    (0, omega arith, rw all bad)

flags-more : (g : GlyphBytes) (at left : ℕ) (r : Run) (f : Fault) → IsRead g r (written_run g.bytes at) (suc left)
    → IsFlagDefect g r.next (left - r.copies) f → IsFlagDefect g at (suc left) f
flags-more g at left r f run bad =
    let same = run.same in
    let within : (written_run g.bytes at).copies < suc left = rw same at run.within in
    let is : IsFlagDefect g (written_run g.bytes at).next (left - (written_run g.bytes at).copies) f = rw same at bad in
    let total = flags-length g.bytes at is.0 in
    let below = is.1 in
    let count : suc left - length (written_flags g.bytes at (suc is.0)) ≡ left - (written_run g.bytes at).copies -
    length (written_flags g.bytes (written_run g.bytes at).next is.0) = rw total (omega arith) in
    (suc is.0, rw total (omega arith), rw count is.2)

pub flags-broke : (fuel : ℕ) (g : GlyphBytes) (at left : ℕ) (f : Fault) → left ≤ fuel → flags_from fuel g at left ≡ Err f
    → IsFlagDefect g at left f
unfolding flags_from
flags-broke fuel g at zero f enough was = absurd cc
flags-broke zero g at (suc left) f enough was = absurd (omega arith)
flags-broke (suc fuel) g at (suc left) f enough was =
    elim (was-err (run_at g at (suc left)) (λ r. after (replicate (suc r.copies) r.flag)
    (flags_from fuel g r.next (left - r.copies))) f was) [
      | inl here ↦ flags-first g at left f (run-broke g at (suc left) f here)
      | inr later ↦
          let r = later.value in
          let rest = after-err (replicate (suc r.copies) r.flag) (flags_from fuel g r.next (left - r.copies)) f
          later.rest in
          flags-more g at left r f (run-was g at (suc left) r (omega arith) later.first)
          (flags-broke fuel g r.next (left - r.copies) f (omega arith) rest)
    ]

-- the deltas along an axis
abbrev delta_as : List ℕ → ℕ → Bool → Bool → Delta
delta_as bytes at short same =
    if short then record { by = short_delta same (slice_index bytes at); next = at + 1 }
    else (if same then record { by = pos 0; next = at }
    else record { by = signed16 (unsigned_at bytes at 2); next = at + 2 })

delta-broke-cases : (g : GlyphBytes) (at : ℕ) (short same : Bool) (f : Fault)
    → ◌≡◌ {A = Result Delta Fault} (if short then (byte_in g at
    >>= λ byte. Ok (record { by = short_delta same byte; next = at + 1 }))
    else (if same then Ok (record { by = pos 0; next = at })
    else (signed_in g at >>= λ word. Ok (record { by = word; next = at + 2 })))) (Err f)
    → IsCut g (delta_as g.bytes at short same).next f
delta-broke-cases g at true same f was = elim (was-err (byte_in g at) _ f was) [
  | inl here ↦ let s = byte-short g at f here in (s.ends, s.is)
  | inr later ↦ let rest = later.rest in absurd cc
]
delta-broke-cases g at false true f was = absurd cc
delta-broke-cases g at false false f was = elim (was-err (signed_in g at) _ f was) [
  | inl here ↦ let s = signed-short g at f here in (s.ends, s.is)
  | inr later ↦ let rest = later.rest in absurd cc
]

delta-goes-on : (bytes : List ℕ) (at : ℕ) (short same : Bool) → at ≤ (delta_as bytes at short same).next
delta-goes-on bytes at true same = omega arith
delta-goes-on bytes at false true = omega arith
delta-goes-on bytes at false false = omega arith

deltas-go-on : (bytes : List ℕ) (a : AxisFlags) (flags : List ℕ) (at : ℕ) → at ≤ deltas_end bytes a flags at
deltas-go-on bytes a [] at = omega arith
deltas-go-on bytes a (flag ∷ flags) at =
    let first = delta-goes-on bytes at (has flag a.short) (has flag a.same) in
    let others = deltas-go-on bytes a flags (written_delta bytes a flag at).next in
    omega arith

delta-broke : (g : GlyphBytes) (a : AxisFlags) (flag at : ℕ) (f : Fault) → delta_at g a flag at ≡ Err f
    → IsCut g (written_delta g.bytes a flag at).next f
unfolding delta_at
delta-broke g a flag at f was = delta-broke-cases g at (has flag a.short) (has flag a.same) f was

-- some sum of deltas from a first value on leaves 16 bits
abbrev LeavesFrom : ℤ → List ℤ → Type 0
LeavesFrom from by = (i : ℕ) × (i < length by) × (is_coordinate (fold ◌+ℤ◌ from (take (i + 1) by)) ≡ false)

leaves-more : (from by : ℤ) (ds : List ℤ) → LeavesFrom (from +ℤ by) ds → LeavesFrom from (by ∷ ds)
leaves-more from by ds leaves =
    let h = rw (add-one leaves.0) at leaves.2 in
    let below = leaves.1 in
    (suc leaves.0, omega arith, rw (add-one (suc leaves.0)) h)

abbrev AreSumsBad : GlyphBytes → AxisFlags → List ℕ → Coordinate → Fault → Type 0
AreSumsBad g a flags before f =
    IsCut g (deltas_end g.bytes a flags before.next) f
    ⊎ (LeavesFrom before.value (deltas g.bytes a flags before.next) × (f ≡ glyph_fault g 0 why.CoordRange))

sums-more : (g : GlyphBytes) (a : AxisFlags) (flag : ℕ) (flags : List ℕ) (before c : Coordinate) (f : Fault)
    → c ≡ summed before (written_delta g.bytes a flag before.next) → AreSumsBad g a flags c f
    → AreSumsBad g a (flag ∷ flags) before f
sums-more g a flag flags before c f is bad =
    let there : AreSumsBad g a flags (summed before (written_delta g.bytes a flag before.next)) f = rw is at bad in
    elim there [
      | inl here ↦ inl here
      | inr leaves ↦ inr (
        leaves-more before.value (written_delta g.bytes a flag before.next).by
            (deltas g.bytes a flags (written_delta g.bytes a flag before.next).next) leaves.0,
        leaves.1,
      )
    ]

-- the coordinate of one point
coordinate-broke : (g : GlyphBytes) (a : AxisFlags) (flag : ℕ) (flags : List ℕ) (before : Coordinate) (f : Fault)
    → before.next ≤ length g.bytes → coordinate_at g a flag before ≡ Err f → AreSumsBad g a (flag ∷ flags) before f
unfolding coordinate_at within_words
coordinate-broke g a flag flags before f le was = elim (was-err (delta_at g a flag before.next) _ f was) [
  | inl here ↦ inl (further g (written_delta g.bytes a flag before.next).next
      (deltas_end g.bytes a (flag ∷ flags) before.next) f
      (deltas-go-on g.bytes a flags (written_delta g.bytes a flag before.next).next)
      (delta-broke g a flag before.next f here))
  | inr later ↦
      let d = delta-was g a flag before.next later.value le later.first in
      let p = failed-else (is_coordinate (summed before later.value).value) _ (summed before later.value) f
      later.rest in
      let leaves : is_coordinate (summed before (written_delta g.bytes a flag before.next)).value ≡ false = rw d.is at
      p.0 in
      inr ((0, omega arith, leaves), p.1)
]

pub sums-broke : (g : GlyphBytes) (a : AxisFlags) (flags : List ℕ) (before : Coordinate) (f : Fault)
    → before.next ≤ length g.bytes → coordinates_from g a flags before ≡ Err f → AreSumsBad g a flags before f
unfolding coordinates_from
sums-broke g a [] before f le was = absurd cc
sums-broke g a (flag ∷ flags) before f le was = elim (was-err (coordinate_at g a flag before) _ f was) [
  | inl here ↦ coordinate-broke g a flag flags before f le here
  | inr later ↦
      let next = coordinate-was g a flag before later.value le later.first in
      let rest = after-err (later.value.value ∷ []) (coordinates_from g a flags later.value) f later.rest in
      sums-more g a flag flags before later.value f next.is (sums-broke g a flags later.value f next.room rest)
]

-- the points
abbrev ArePointsBad : GlyphBytes → ℕ → ℕ → Fault → Type 0
ArePointsBad g at n f = IsFlagDefect g at n f ⊎ IsCoordinateDefect g at n f

x-broke : (g : GlyphBytes) (at n : ℕ) (flags : Listing ℕ) (f : Fault) → AreCovered g.bytes at n flags
    → AreSumsBad g x_axis flags.items (origin flags.next) f → IsCoordinateDefect g at n f
x-broke g at n flags f covered bad =
    let runs = covered.runs in
    let is : AreSumsBad g x_axis (written_flags g.bytes at runs) (origin (runs_end g.bytes at runs)) f = rw
    (covered.covers, covered.end) at bad in (
      runs,
      covered.many,
      elim is [
        | inl here ↦ inl (further g (y_place g.bytes at runs) (points_end g.bytes at runs) f
            (deltas-go-on g.bytes y_axis (written_flags g.bytes at runs) (y_place g.bytes at runs)) here)
        | inr leaves ↦ inr (inl leaves.0, leaves.1)
      ],
    )

y-broke : (g : GlyphBytes) (at n : ℕ) (flags : Listing ℕ) (xs : Listing ℤ) (f : Fault) → AreCovered g.bytes at n flags
    → AreRead g.bytes x_axis flags.items (origin flags.next) xs → AreSumsBad g y_axis flags.items (origin xs.next) f
    → IsCoordinateDefect g at n f
y-broke g at n flags xs f covered read bad =
    let runs = covered.runs in
    let next = read.next in
    let at_y : AreSumsBad g y_axis flags.items (origin (deltas_end g.bytes x_axis flags.items flags.next)) f = rw next
    at bad in
    let is : AreSumsBad g y_axis (written_flags g.bytes at runs) (origin (y_place g.bytes at runs)) f = rw
    (covered.covers, covered.end) at at_y in (
      runs,
      covered.many,
      elim is [
        | inl here ↦ inl here
        | inr leaves ↦ inr (inr leaves.0, leaves.1)
      ],
    )

all-of : (n : ℕ) → n ≤ n
all-of n = omega arith

pub points-broke : (g : GlyphBytes) (at n : ℕ) (f : Fault) → at ≤ length g.bytes → points_of g at n ≡ Err f
    → ArePointsBad g at n f
unfolding points_of
points-broke g at n f le was = elim (was-err (flags_from n g at n) _ f was) [
  | inl here ↦ inl (flags-broke n g at n f (all-of n) here)
  | inr by_flags ↦
      let flags = by_flags.value in
      let covered = flags-were n g at n flags (all-of n) le by_flags.first in
      inr (elim (was-err (coordinates_from g x_axis flags.items (origin flags.next)) _ f by_flags.rest) [
        | inl here ↦ x-broke g at n flags f covered (sums-broke g x_axis flags.items (origin flags.next) f covered.room
            here)
        | inr by_xs ↦
            let xs = by_xs.value in
            let read = coordinates-were g x_axis flags.items (origin flags.next) xs covered.room by_xs.first in
            elim (was-err (coordinates_from g y_axis flags.items (origin xs.next)) _ f by_xs.rest) [
              | inl here ↦ y-broke g at n flags xs f covered read
                  (sums-broke g y_axis flags.items (origin xs.next) f read.room here)
              | inr by_ys ↦ let rest = by_ys.rest in absurd cc
            ]
      ])
]

-- the number of points, from the ends that were read
pub count-is : (bytes : List ℕ) (contours : ℕ) (ends : Listing ℕ) → 0 < contours → EndsRead bytes 10 contours 0 ends
    → point_count ends.items ≡ written_points bytes contours
count-is bytes contours ends some read =
    let many = read.many in
    let word = read.words (contours - 1) (omega arith) in
    rw many (ap (λ (n : ℕ). n + 1) word)

many-broke : (g : GlyphBytes) (contours : ℕ) (ends : Listing ℕ) (f : Fault) → 0 < contours
    → EndsRead g.bytes 10 contours 0 ends → points_within g ends ≡ Err f → IsManyPoints g contours f
unfolding points_within
many-broke g contours ends f some read was =
    let p = failed (nat_lt point_limit (point_count ends.items)) _ (point_count ends.items) f was in
    let count = count-is g.bytes contours ends some read in
    let test : nat_lt point_limit (written_points g.bytes contours) ≡ true = rw count at p.0 in
    let next = read.next in
    let room = read.room in
    let place : ends.next - 2 ≡ end_place (contours - 1) = omega arith in
    (omega arith, grind (arith, nat_tests), rw place at p.1)

-- after the program
points-after : (g : GlyphBytes) (contours n size : ℕ) (ends : Listing ℕ) (f : Fault) → 0 < contours
    → EndsRead g.bytes 10 contours 0 ends → n ≡ point_count ends.items → size ≡ unsigned_at g.bytes ends.next 2
    → ArePointsBad g (ends.next + 2 + size) n f → ArePointsBad g (flags_place g.bytes contours)
    (written_points g.bytes contours) f
points-after g contours n size ends f some read count is bad =
    let next = read.next in
    let n_is : n ≡ written_points g.bytes contours = count ∙ count-is g.bytes contours ends some read in
    let place : ends.next + 2 + size ≡ flags_place g.bytes contours = rw (is, next) refl in
    rw (place, n_is) at bad

pub simple-broke : (g : GlyphBytes) (x_min : ℤ) (contours : ℕ) (f : Fault) → 10 ≤ length g.bytes → 0 < contours
    → simple_of g x_min contours ≡ Err f → IsSimpleDefect g contours f
unfolding simple_of
simple-broke g x_min contours f header some was = elim (was-err (ends_of g contours) _ f was) [
  | inl here ↦ elim (ends-broke g 0 contours 0 contours f (zero-add contours) refl here) [
    | inl short ↦ inl (further g (size_place contours) (flags_place g.bytes contours) f (omega arith) short)
    | inr falls ↦ inr (inl falls)
  ]
  | inr by_ends ↦
      let ends = by_ends.value in
      let read = ends-were g 10 contours 0 ends header by_ends.first in
      let next = read.next in
      elim (was-err (points_within g ends) _ f by_ends.rest) [
        | inl here ↦ inr (inr (inl (many-broke g contours ends f some read here)))
        | inr by_count ↦
            let n = by_count.value in
            let count = count-was g ends n by_count.first in
            elim (was-err (word_in g ends.next) _ f by_count.rest) [
              | inl here ↦ inl (cut g (ends.next + 2) (flags_place g.bytes contours) f (omega arith)
                  (word-short g ends.next f here))
              | inr by_size ↦
                  let size = by_size.value in
                  let word = word-was g ends.next size by_size.first in
                  let place : ends.next + 2 + size ≡ flags_place g.bytes contours = rw (word.is, next) refl in
                  elim (was-err (slice_in g (ends.next + 2) size) _ f by_size.rest) [
                    | inl here ↦ inl (cut g (ends.next + 2 + size) (flags_place g.bytes contours) f (omega arith)
                        (slice-short g (ends.next + 2) size f here))
                    | inr by_code ↦
                        let code = slice-was g (ends.next + 2) size by_code.value by_code.first in
                        let room = code.1.room in
                        let many = code.0 in
                        elim (was-err (points_of g (ends.next + 2 + size) n) _ f by_code.rest) [
                          | inl here ↦ inr (inr (inr (points-after g contours n size ends f some read count.is word.is
                              (points-broke g (ends.next + 2 + size) n f (omega arith) here))))
                          | inr by_points ↦ let rest = by_points.rest in absurd cc
                        ]
                  ]
            ]
      ]
]
