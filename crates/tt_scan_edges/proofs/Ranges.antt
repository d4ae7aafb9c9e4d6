-- Ranges of numbers in other forms.
use Rattle.std.proofs.Common.{◌≡◌, ◌∙◌, ℕ, ◌<◌, nat_le, nat_lt, Bool, true, false, ◌&&◌, ◌^◌, SFits, w64, refl, arith}
use Rattle.std.specs.Prelude.{ℤ, pos, unsigned_abs, ◌+ℤ◌, ◌-ℤ◌, ◌*ℤ◌, ◌≤ℤ◌, ◌<ℤ◌, int_lt, int_le}
use Rattle.std.specs.Int.{int_min, int_max}
use Rattle.std.proofs.lemmas.Bool.Decides.{nat_tests}
use Rattle.std.proofs.lemmas.Int.{ints, clamps, by_lt_z}
use Rattle.tt_scan_edges.specs.Winding.{is_between}

pub between_turned : (a b z : ℤ) → is_between a b z ≡ is_between b a z
between_turned a b z = grind (arith, ints)

ordered : (a b z : ℤ) → a ≤ℤ b → is_between a b z ≡ (int_le a z && int_le z b)
ordered a b z order = grind (arith, ints)

shifted : (a b c d : ℤ) → a -ℤ b ≡ c -ℤ d → int_le a b ≡ int_le c d
shifted a b c d same = grind (arith, ints)

-- between two numbers: not below the less, not above the greater
between_is : (a b z : ℤ) → is_between a b z ≡ (int_le (int_min a b) z && int_le z (int_max a b))
between_is a b z =
    by_lt_z b a
    (λ less.
    let low : int_min a b ≡ b = omega (arith, ints, clamps) in
    let high : int_max a b ≡ a = omega (arith, ints, clamps) in
    rw (low, high) (between_turned a b z ∙ ordered b a z (omega (arith, ints))))
    (λ more.
    let low : int_min a b ≡ a = omega (arith, ints, clamps) in
    let high : int_max a b ≡ b = omega (arith, ints, clamps) in
    rw (low, high) (ordered a b z more))

-- a number that counts from another place, upwards or downwards, between two numbers
pub between_from : (a b z low high k : ℤ) → int_min a b -ℤ z ≡ low -ℤ k → int_max a b -ℤ z ≡ high -ℤ k → is_between a b z ≡ (int_le low k && int_le k high)
between_from a b z low high k is_low is_high =
    let one = shifted (int_min a b) z low k is_low in
    let two = shifted z (int_max a b) k high (omega (arith, ints)) in
    between_is a b z ∙ rw (one, two) refl

pub and_turned : (p q : Bool) → (p && q) ≡ (q && p)
and_turned true true = refl
and_turned true false = refl
and_turned false true = refl
and_turned false false = refl

-- whole pixels, from their counts: `first` by the floor of low and all but one more pixel, `last` by the floor of high
pixel_first : (low first k : ℤ) → (pos 8192 *ℤ first) ≤ℤ (low +ℤ pos 8191) → (low +ℤ pos 8191) <ℤ (pos 8192 *ℤ (first +ℤ pos 1))
    → int_le first k ≡ int_le low (pos 8192 *ℤ k)
pixel_first low first k floor next =
    by_lt_z k first
    (λ less. let before : (pos 8192 *ℤ k) <ℤ low = omega (arith, ints) in grind (arith, ints))
    (λ more. let reached : low ≤ℤ (pos 8192 *ℤ k) = omega (arith, ints) in grind (arith, ints))

pixel_last : (high last k : ℤ) → (pos 8192 *ℤ last) ≤ℤ high → high <ℤ (pos 8192 *ℤ (last +ℤ pos 1))
    → int_le k last ≡ int_le (pos 8192 *ℤ k) high
pixel_last high last k floor next =
    by_lt_z last k
    (λ less. let over : high <ℤ (pos 8192 *ℤ k) = omega (arith, ints) in grind (arith, ints))
    (λ more. let within : (pos 8192 *ℤ k) ≤ℤ high = omega (arith, ints) in grind (arith, ints))

pub pixels_in : (low high first last k : ℤ)
    → (pos 8192 *ℤ first) ≤ℤ (low +ℤ pos 8191) → (low +ℤ pos 8191) <ℤ (pos 8192 *ℤ (first +ℤ pos 1))
    → (pos 8192 *ℤ last) ≤ℤ high → high <ℤ (pos 8192 *ℤ (last +ℤ pos 1))
    → (int_le first k && int_le k last) ≡ (int_le low (pos 8192 *ℤ k) && int_le (pos 8192 *ℤ k) high)
pixels_in low high first last k first_low first_high last_low last_high =
    let left = pixel_first low first k first_low first_high in
    let right = pixel_last high last k last_low last_high in
    rw (left, right) refl

pub none_between : (a b k : ℤ) → int_le a b ≡ false → false ≡ (int_le a k && int_le k b)
none_between a b k none = grind (arith, ints)

-- no row lies from 0 on and below 0
pub none_at : (row : ℤ) → pos 0 ≤ℤ row → false ≡ (int_le (pos 0) row && int_lt row (pos 0))
none_at row from = grind (arith, ints)

-- a range cut to the rows from 0 on, below height
clipped_first : (first height from k : ℤ) → from ≡ int_max (pos 0) (int_min first height) → pos 0 ≤ℤ k → k <ℤ height → int_le first k ≡ int_le from k
clipped_first first height from k is low high =
    by_lt_z k first
    (λ below. let after : k <ℤ from = omega (arith, ints, clamps) in grind (arith, ints))
    (λ reached. let after : from ≤ℤ k = omega (arith, ints, clamps) in grind (arith, ints))

clipped_last : (last height from past k : ℤ) → past ≡ int_max from (int_min (last +ℤ pos 1) height) → k <ℤ height → from ≤ℤ k → int_le k last ≡ int_lt k past
clipped_last last height from past k is high reached =
    by_lt_z last k
    (λ over. let after : past ≤ℤ k = omega (arith, ints, clamps) in grind (arith, ints))
    (λ more. let after : k <ℤ past = omega (arith, ints, clamps) in grind (arith, ints))

same_after : (p q r : Bool) → (p ≡ true → q ≡ r) → (p && q) ≡ (p && r)
same_after true q r f = f refl
same_after false q r f = refl

pub clipped : (first last height from past k : ℤ) → from ≡ int_max (pos 0) (int_min first height) → past ≡ int_max from (int_min (last +ℤ pos 1) height)
    → pos 0 ≤ℤ k → k <ℤ height → (int_le first k && int_le k last) ≡ (int_le from k && int_lt k past)
clipped first last height from past k is_from is_past low high =
    rw (clipped_first first height from k is_from low high) (same_after (int_le from k) (int_le k last) (int_lt k past) (λ reached. clipped_last last height from past k is_past high (omega (arith, ints))))

-- lines counted upwards and downwards
pub downwards : (top low high row : ℤ) → (int_le low (top -ℤ row) && int_le (top -ℤ row) high) ≡ (int_le (top -ℤ high) row && int_le row (top -ℤ low))
downwards top low high row =
    let one = shifted low (top -ℤ row) row (top -ℤ low) (omega (arith, ints)) in
    let two = shifted (top -ℤ row) high (top -ℤ high) row (omega (arith, ints)) in
    rw (one, two) (and_turned (int_le row (top -ℤ low)) (int_le (top -ℤ high) row))

-- a column cut to those of a window: the window's columns from `low` on

pub placed : (at z low : ℤ) (width k : ℕ) → z ≡ int_max low (int_min at (low +ℤ pos width)) → k < width
    → int_le at (low +ℤ pos k) ≡ nat_le (unsigned_abs (z -ℤ low)) k
placed at z low width k is within =
    by_lt_z at low
    (λ left. let zero : z -ℤ low ≡ pos 0 = omega (arith, ints, clamps) in rw zero (grind (arith, ints, nat_tests)))
    (λ right. by_lt_z at (low +ℤ pos width)
    (λ inside. let same : z ≡ at = omega (arith, ints, clamps) in grind (arith, ints, nat_tests))
    (λ past. let last : z -ℤ low ≡ pos width = omega (arith, ints, clamps) in rw last (grind (arith, ints, nat_tests))))

pub placed_past : (at z before : ℤ) (width k : ℕ) → z ≡ int_max before (int_min at (before +ℤ pos width)) → k < width
    → int_le ((before +ℤ pos 1) +ℤ pos k) at ≡ nat_lt k (unsigned_abs (z -ℤ before))
placed_past at z before width k is within =
    by_lt_z before at
    (λ right. by_lt_z at (before +ℤ pos width)
    (λ inside. let same : z ≡ at = omega (arith, ints, clamps) in grind (arith, ints, nat_tests))
    (λ past. let last : z -ℤ before ≡ pos width = omega (arith, ints, clamps) in rw last (grind (arith, ints, nat_tests))))
    (λ left. let zero : z -ℤ before ≡ pos 0 = omega (arith, ints, clamps) in rw zero (grind (arith, ints, nat_tests)))

-- the column before a window
pub before_fits : (low : ℤ) → unsigned_abs low < 2 ^ 41 → SFits w64 (low -ℤ pos 1)
before_fits low small = omega (arith, ints)

pub one_after : (low : ℤ) → (low -ℤ pos 1) +ℤ pos 1 ≡ low
one_after low = omega (arith, ints)

-- the distance of a cut column from the start of the window
pub within_fits : (z low : ℤ) (n : ℕ) → n < 2 ^ 32 → low ≤ℤ z → z ≤ℤ (low +ℤ pos n) → SFits w64 (z -ℤ low)
within_fits z low n few above below = omega (arith, ints)
