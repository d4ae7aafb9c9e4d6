-- The number in the first bytes of a slice, high byte first, is the number at the slice's offset.
use Rattle.std.proofs.Common.{◌≡◌, Bool, ℕ, zero, suc, ◌+◌, ◌-◌, ◌≤◌, List, length, take, drop, Option, Some, None, true, false, refl, rules, arith}
use Rattle.std.specs.Prelude.{ℤ, nat_le, option_map, if◌then◌else◌}
use Rattle.std.proofs.lemmas.Grind.{common_steps}
use Rattle.byteorder.specs.Endian.{big_from}
use Rattle.byteorder.specs.Numbers.{big_from-take}
use Rattle.tt_core.specs.Numbers.{number_at, signed_at, signed16, signed32, signed32_at, unsigned_at}

from_place : (b : List ℕ) (at i place k : ℕ) → place ≡ at + i → big_from i k (drop at b) ≡ unsigned_at b place k
from_place b at i place zero is = refl
from_place b at i place (suc k) is =
    let rest : big_from (suc i) k (drop at b) ≡ unsigned_at b (suc place) k =
    from_place b at (suc i) (suc place) k (omega arith) in
    grind (arith, common_steps, rest)

pub number_read : (b : List ℕ) (at k n : ℕ) → n ≡ big_from 0 k (take (length b - at) (drop at b)) → at + k ≤ length b
    → ◌≡◌ {A = Option ℕ} (Some n) (number_at b at k)
number_read b at k n is fits =
    let room : nat_le (at + k) (length b) ≡ true = search rules in
    let whole = big_from-take 0 k (length b - at) (drop at b) (omega arith) in
    let placed : big_from 0 k (drop at b) ≡ unsigned_at b at k = from_place b at 0 at k (omega arith) in
    rw (room, is, whole, placed) refl

told : (there : Bool) (value n : ℕ) → ◌≡◌ {A = Option ℕ} (if there then Some value else None) (Some n) → value ≡ n
told true value n is = cc
told false value n is = absurd cc

-- a number that is given is the number at that offset
pub number_told : (b : List ℕ) (at k n : ℕ) → number_at b at k ≡ Some n → unsigned_at b at k ≡ n
number_told b at k n is = told (nat_le (at + k) (length b)) (unsigned_at b at k) n is

signed : (read : ℕ → ℤ) (there : Bool) (value : ℕ) (z : ℤ)
    → ◌≡◌ {A = Option ℤ} (option_map read (if there then Some value else None)) (Some z) → read value ≡ z
signed read true value z is = cc
signed read false value z is = absurd cc

pub signed_told : (b : List ℕ) (at : ℕ) (z : ℤ) → signed_at b at ≡ Some z → signed16 (unsigned_at b at 2) ≡ z
signed_told b at z is = signed signed16 (nat_le (at + 2) (length b)) (unsigned_at b at 2) z is

pub signed32_told : (b : List ℕ) (at : ℕ) (z : ℤ) → signed32_at b at ≡ Some z → signed32 (unsigned_at b at 4) ≡ z
signed32_told b at z is = signed signed32 (nat_le (at + 4) (length b)) (unsigned_at b at 4) z is
