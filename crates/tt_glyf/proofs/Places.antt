-- A program is the bytes of glyf at its offset.
use Rattle.std.proofs.Common.{◌≡◌, ℕ, ◌+◌, ◌-◌, ◌≤◌, nat_le, List, length, take, drop, Ok, refl, arith, sym, ◌∙◌}
use Rattle.std.specs.Prelude.{slice_range}
use Rattle.std.proofs.lemmas.List.{length-drop, length-take, drop-take, take-take, drop-drop}
use Rattle.std.proofs.lemmas.Bool.Decides.{nat_tests}
use Rattle.tt_core.specs.Chains.{passed-else}
use Rattle.tt_glyf.specs.Bytes.{GlyphBytes, slice_in}
use Rattle.tt_glyf.specs.Meaning.{IsProgram}

-- bytes within a stretch, at an offset
pub record IsWithin (bytes code : List ℕ) (at : ℕ) : Type 0 where
  pub room : at + length code ≤ length bytes
  pub is : code ≡ slice_range bytes at (at + length code)

pub length-range : (bytes : List ℕ) (at n : ℕ) → at + n ≤ length bytes → length (slice_range bytes at (at + n)) ≡ n
length-range bytes at n room = simp (length-take, length-drop) (omega arith)

pub slice-was : (g : GlyphBytes) (at n : ℕ) (code : List ℕ) → slice_in g at n ≡ Ok code → (length code ≡ n)
    × IsWithin g.bytes code at
unfolding slice_in
slice-was g at n code was =
    let p = passed-else (nat_le (at + n) (length g.bytes)) _ (slice_range g.bytes at (at + n)) code was in
    let test = p.0 in
    let is = p.1 in
    let room : at + n ≤ length g.bytes = grind (arith, nat_tests) in
    let size : length code ≡ n = rw (← is) (length-range g.bytes at n room) in
    (size, record { room = omega arith; is = rw size (sym is) })

inner-by : (xs : List ℕ) (at n m : ℕ) → n ≤ m → take n (drop at (take (at + m) xs)) ≡ take n (drop at xs)
inner-by xs at n m le = rw (drop-take, take-take) refl

inner : (xs : List ℕ) (at n size : ℕ) → at + n ≤ size → take n (drop at (take size xs)) ≡ take n (drop at xs)
inner xs at n size room =
    let whole : at + (size - at) ≡ size = omega arith in
    rw whole at (inner-by xs at n (size - at) (omega arith))

-- a slice of a slice
pub range-range : (glyf : List ℕ) (start end at n : ℕ) → at + n ≤ end - start
    → slice_range (slice_range glyf start end) at (at + n) ≡ slice_range glyf (start + at) (start + at + n)
range-range glyf start end at n room =
    let a : at + n - at ≡ n = omega arith in
    let b : start + at + n - (start + at) ≡ n = omega arith in
    rw (a, b, inner (drop start glyf) at n (end - start) room, drop-drop) refl

-- a part of a glyph's bytes is a part of glyf
pub program-is : (glyf bytes code : List ℕ) (start end at : ℕ) → start ≤ end → end ≤ length glyf
    → bytes ≡ slice_range glyf start end → IsWithin bytes code at → IsProgram glyf code (start + at)
program-is glyf bytes code start end at le fits is within =
    let inside = rw is at within in
    let size : length (slice_range glyf start end) ≡ end - start = simp (length-take, length-drop) (omega arith) in
    let room : at + length code ≤ end - start = omega (arith, inside.room) in
    (omega arith, inside.is ∙ range-range glyf start end at (length code) room)
