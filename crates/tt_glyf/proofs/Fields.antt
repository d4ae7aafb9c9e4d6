-- A field that was read is the one in the bytes; a field that could not be read passes their end.
use Rattle.std.proofs.Common.{◌≡◌, ℕ, ◌+◌, ◌<◌, ◌≤◌, nat_lt, nat_le, length, Ok, Err, ℤ, arith, sym}
use Rattle.std.specs.Prelude.{slice_index}
use Rattle.std.proofs.lemmas.Bool.Decides.{nat_tests}
use Rattle.tt_core.specs.Chains.{passed-else, failed-else}
use Rattle.tt_core.specs.Faults.{Fault}
use Rattle.tt_core.specs.Numbers.{unsigned_at, signed16}
use Rattle.tt_glyf.specs.Bytes.{GlyphBytes, byte_in, word_in, signed_in, slice_in, short}

pub record IsField {A : Type 0} (g : GlyphBytes) (end : ℕ) (value written : A) : Type 0 where
  pub is : value ≡ written
  pub room : end ≤ length g.bytes

pub byte-was : (g : GlyphBytes) (at n : ℕ) → byte_in g at ≡ Ok n → IsField g (at + 1) n (slice_index g.bytes at)
unfolding byte_in
byte-was g at n was =
    let p = passed-else (nat_lt at (length g.bytes)) _ (slice_index g.bytes at) n was in
    let test = p.0 in
    record { is = sym p.1; room = grind (arith, nat_tests) }

pub word-was : (g : GlyphBytes) (at n : ℕ) → word_in g at ≡ Ok n → IsField g (at + 2) n (unsigned_at g.bytes at 2)
unfolding word_in
word-was g at n was =
    let p = passed-else (nat_le (at + 2) (length g.bytes)) _ (unsigned_at g.bytes at 2) n was in
    let test = p.0 in
    record { is = sym p.1; room = grind (arith, nat_tests) }

pub signed-was : (g : GlyphBytes) (at : ℕ) (n : ℤ) → signed_in g at ≡ Ok n
    → IsField g (at + 2) n (signed16 (unsigned_at g.bytes at 2))
unfolding signed_in
signed-was g at n was =
    let p = passed-else (nat_le (at + 2) (length g.bytes)) _ (signed16 (unsigned_at g.bytes at 2)) n was in
    let test = p.0 in
    record { is = sym p.1; room = grind (arith, nat_tests) }

-- the bytes end before this offset
pub record IsShort (g : GlyphBytes) (end : ℕ) (fault : Fault) : Type 0 where
  pub ends : length g.bytes < end
  pub is : fault ≡ short g

pub byte-short : (g : GlyphBytes) (at : ℕ) (f : Fault) → byte_in g at ≡ Err f → IsShort g (at + 1) f
unfolding byte_in
byte-short g at f was =
    let p = failed-else (nat_lt at (length g.bytes)) _ (slice_index g.bytes at) f was in
    let test = p.0 in
    record { ends = grind (arith, nat_tests); is = p.1 }

pub word-short : (g : GlyphBytes) (at : ℕ) (f : Fault) → word_in g at ≡ Err f → IsShort g (at + 2) f
unfolding word_in
word-short g at f was =
    let p = failed-else (nat_le (at + 2) (length g.bytes)) _ (unsigned_at g.bytes at 2) f was in
    let test = p.0 in
    record { ends = grind (arith, nat_tests); is = p.1 }

pub signed-short : (g : GlyphBytes) (at : ℕ) (f : Fault) → signed_in g at ≡ Err f → IsShort g (at + 2) f
unfolding signed_in
signed-short g at f was =
    let p = failed-else (nat_le (at + 2) (length g.bytes)) _ (signed16 (unsigned_at g.bytes at 2)) f was in
    let test = p.0 in
    record { ends = grind (arith, nat_tests); is = p.1 }

pub slice-short : (g : GlyphBytes) (at n : ℕ) (f : Fault) → slice_in g at n ≡ Err f → IsShort g (at + n) f
unfolding slice_in
slice-short g at n f was =
    let p = failed-else (nat_le (at + n) (length g.bytes)) _ _ f was in
    let test = p.0 in
    record { ends = grind (arith, nat_tests); is = p.1 }

-- then they also end before any later offset
pub short-further : (g : GlyphBytes) (end later : ℕ) (f : Fault) → end ≤ later → IsShort g end f → IsShort g later f
short-further g end later f le s =
    let ends = s.ends in
    record { ends = omega arith; is = s.is }
