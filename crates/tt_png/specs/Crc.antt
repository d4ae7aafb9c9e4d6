-- RFC 2083, "PNG Specification", sections 3.4 and 15: CRC-32. The lowest bit of each byte goes first. So the register
-- moves to the right, and the lowest power of its polynomial is in the highest bit.
use Rattle.std.specs.Prelude.{◌≡◌, refl, ℕ, zero, suc, ◌/◌, ◌%◌, ◌==◌, bit_xor, List, [], codes, fold, if◌then◌else◌}
use Rattle.std.specs.Int.{bit_not, w32}

-- x^32 + x^26 + x^23 + x^22 + x^16 + x^12 + x^11 + x^10 + x^8 + x^7 + x^5 + x^4 + x^2 + x + 1, without the highest power
abbrev pub polynomial : ℕ
polynomial = 0xEDB88320

-- the register a bit later
abbrev pub after_bit : ℕ → ℕ
after_bit register = if register % 2 == 1 then bit_xor (register / 2) polynomial else register / 2

-- the register n bits later
unfoldable pub after_bits : ℕ → ℕ → ℕ
after_bits zero register = register
after_bits (suc n) register = after_bits n (after_bit register)

-- the register after a byte
abbrev pub after_byte : ℕ → ℕ → ℕ
after_byte register byte = after_bits 8 (bit_xor register byte)

-- the CRC-32 of bytes: the register has ones alone at first, and all its bits are turned at last
unfoldable pub crc_32 : List ℕ → ℕ
crc_32 bytes = bit_not w32 (fold after_byte 0xFFFFFFFF bytes)

-- worked values: the last chunk of every file, nothing, and the digits that catalogues of CRCs use
an_end : crc_32 (codes "IEND") ≡ 0xAE426082
unfolding crc_32 after_bits
an_end = refl

nothing : crc_32 [] ≡ 0
unfolding crc_32 after_bits
nothing = refl

nine_digits : crc_32 (codes "123456789") ≡ 0xCBF43926
unfolding crc_32 after_bits
nine_digits = refl
