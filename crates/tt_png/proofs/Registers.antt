-- The register of CRC-32 eight bits later: by its lowest byte, and by the others moved down.
use Rattle.std.proofs.Common.{◌≡◌, ℕ, zero, suc, ◌+◌, ◌*◌, ◌/◌, ◌%◌, ◌^◌, ◌<◌, ◌==◌, Bool, true, false, if◌then◌else◌, bit_xor, List, [], ◌∷◌, slice_index_or, refl, sym, ap, ap₂, ◌∙◌, arith, mul-one, mul_assoc, pow-suc}
use Rattle.std.proofs.lemmas.Nat.{xor_comm, xor_mod, xor_shr}
use lib.Bits.{xor_assoc, xor_shifted, xor_zero_r}
use Rattle.tt_png.specs.Crc.{after_bit, after_bits, after_byte, polynomial}

-- the polynomial is added to one of two numbers, or to their sum
added : (odd : Bool) (y x : ℕ)
    → (if odd then bit_xor (bit_xor y x) polynomial else bit_xor y x) ≡ bit_xor (if odd then bit_xor y polynomial else y) x
added true y x = xor_assoc y x polynomial ∙ ap (bit_xor y) (xor_comm x polynomial) ∙ sym (xor_assoc y polynomial x)
added false y x = refl

-- an even number added to the register moves down
after_bit-even : (a x : ℕ) → after_bit (bit_xor a (x * 2)) ≡ bit_xor (after_bit a) x
after_bit-even a x =
    let even : x * 2 % 2 ≡ 0 = omega arith in
    let whole : x * 2 / 2 ≡ x = omega arith in
    let odd : bit_xor a (x * 2) % 2 ≡ a % 2 = xor_mod a (x * 2) 1 ∙ ap (bit_xor (a % 2)) even ∙ xor_zero_r (a % 2) in
    let half : bit_xor a (x * 2) / 2 ≡ bit_xor (a / 2) x = xor_shr a (x * 2) 1 ∙ ap (bit_xor (a / 2)) whole in
    ap₂ (λ (m y : ℕ). if m == 1 then bit_xor y polynomial else y) odd half ∙ added (a % 2 == 1) (a / 2) x

-- bits above the lowest n move down by n
after_bits-high : (n a h : ℕ) → after_bits n (bit_xor a (h * 2 ^ n)) ≡ bit_xor (after_bits n a) h
unfolding after_bits
after_bits-high zero a h = ap (bit_xor a) (mul-one h)
after_bits-high (suc n) a h =
    let double : h * 2 ^ suc n ≡ h * 2 ^ n * 2 = ap (λ (x : ℕ). h * x) (pow-suc 2 n) ∙ sym (mul_assoc h (2 ^ n) 2) in
    ap (λ (x : ℕ). after_bits n (after_bit (bit_xor a x))) double ∙ ap (after_bits n) (after_bit-even a (h * 2 ^ n))
    ∙ after_bits-high n (after_bit a) h

-- a number by its lowest byte and the others
by_lowest_byte : (x : ℕ) → x ≡ bit_xor (x % 256) (x / 256 * 2 ^ 8)
by_lowest_byte x =
    let low : x % 256 < 2 ^ 8 = omega arith in
    let sum : x / 256 * 2 ^ 8 + x % 256 ≡ x = omega arith in
    sym (xor_comm (x % 256) (x / 256 * 2 ^ 8) ∙ xor_shifted (x / 256) 8 (x % 256) low ∙ sum)

after_eight : (x : ℕ) → after_bits 8 x ≡ bit_xor (after_bits 8 (x % 256)) (x / 256)
after_eight x = ap (after_bits 8) (by_lowest_byte x) ∙ after_bits-high 8 (x % 256) (x / 256)

pub after_byte_is : (register byte : ℕ) → byte < 256
    → bit_xor (after_bits 8 (bit_xor (register % 256) byte)) (register / 256) ≡ after_byte register byte
after_byte_is register byte few =
    let same : byte % 256 ≡ byte = omega (arith, few) in
    let none : byte / 256 ≡ 0 = omega (arith, few) in
    let low : bit_xor register byte % 256 ≡ bit_xor (register % 256) byte
    = xor_mod register byte 8 ∙ ap (bit_xor (register % 256)) same in
    let high : bit_xor register byte / 256 ≡ register / 256
    = xor_shr register byte 8 ∙ ap (bit_xor (register / 256)) none ∙ xor_zero_r (register / 256) in
    sym (after_eight (bit_xor register byte) ∙ ap₂ (λ (l h : ℕ). bit_xor (after_bits 8 l) h) low high)

-- the registers eight bits later of n bytes from a first on
abbrev pub registers : ℕ → ℕ → List ℕ
registers first zero = []
registers first (suc n) = after_bits 8 first ∷ registers (suc first) n

register_at : (n first i d : ℕ) → i < n → slice_index_or (registers first n) i d ≡ after_bits 8 (first + i)
register_at zero first i d within = absurd (omega (arith, within))
register_at (suc n) first zero d within =
    let same : first ≡ first + 0 = omega arith in
    ap (after_bits 8) same
register_at (suc n) first (suc i) d within =
    let same : suc first + i ≡ first + suc i = omega arith in
    register_at n (suc first) i d (omega (arith, within)) ∙ ap (after_bits 8) same

-- an entry of a table of all bytes
pub entry_is : (table : List ℕ) (byte d : ℕ) → table ≡ registers 0 256 → byte < 256
    → slice_index_or table byte d ≡ after_bits 8 byte
entry_is table byte d is few =
    let same : 0 + byte ≡ byte = omega arith in
    ap (λ (t : List ℕ). slice_index_or t byte d) is ∙ register_at 256 0 byte d few ∙ ap (after_bits 8) same
