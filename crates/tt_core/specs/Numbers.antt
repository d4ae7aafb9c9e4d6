-- Apple TrueType Reference Manual, "The TrueType Font File" (data types). Every number of a font is big-endian, and a
-- signed number is two's complement. This file also has the rounding of quotients.
use Rattle.std.specs.Prelude.{◌≡◌, ℕ, zero, suc, ◌+◌, ◌*◌, ◌^◌, List, [], ◌∷◌, length, slice_index, nat_lt, nat_le, if◌then◌else◌, ℤ, pos, negsuc, ◌+ℤ◌, ◌-ℤ◌, ◌*ℤ◌, neg_ℤ, int_lt, Option, Some, None, option_map, refl, map}
use Rattle.std.specs.Int.{int_div_euclid}

-- the number in the k bytes at an offset, the highest byte first; a byte past the end counts as 0
abbrev pub unsigned_at : List ℕ → ℕ → ℕ → ℕ
unsigned_at bytes at zero = 0
unsigned_at bytes at (suc k) = slice_index bytes at * 256 ^ k + unsigned_at bytes (suc at) k

-- the number in the k bytes at an offset, if they all exist
abbrev pub number_at : List ℕ → ℕ → ℕ → Option ℕ
number_at bytes at k = if nat_le (at + k) (length bytes) then Some (unsigned_at bytes at k) else None

-- 16 bits read as two's complement
abbrev pub signed16 : ℕ → ℤ
signed16 n = if nat_lt n (2 ^ 15) then pos n else pos n -ℤ pos (2 ^ 16)

-- the signed number in the two bytes at an offset, if they exist
abbrev pub signed_at : List ℕ → ℕ → Option ℤ
signed_at bytes at = option_map signed16 (number_at bytes at 2)

-- 32 bits read as two's complement
abbrev pub signed32 : ℕ → ℤ
signed32 n = if nat_lt n (2 ^ 31) then pos n else pos n -ℤ pos (2 ^ 32)

-- the signed number in the four bytes at an offset, if they exist
abbrev pub signed32_at : List ℕ → ℕ → Option ℤ
signed32_at bytes at = option_map signed32 (number_at bytes at 4)

-- n / d for a positive d, rounded to the nearest whole number, a half upwards: the floor of (2n + d) / (2d)
abbrev pub nearest_quotient : ℤ → ℤ → ℤ
nearest_quotient n d = int_div_euclid (pos 2 *ℤ n +ℤ d) (pos 2 *ℤ d)

-- n / d for any d but 0, rounded likewise; if d is negative, both signs are changed first
abbrev pub rounded_quotient : ℤ → ℤ → ℤ
rounded_quotient n d = if int_lt d (pos 0) then nearest_quotient (neg_ℤ n) (neg_ℤ d) else nearest_quotient n d

-- worked values
two_bytes : number_at (1 ∷ 2 ∷ 3 ∷ []) 1 2 ≡ Some 515
two_bytes = refl

past_the_end : number_at (1 ∷ 2 ∷ 3 ∷ []) 2 2 ≡ None
past_the_end = refl

minus_two : signed_at (255 ∷ 254 ∷ []) 0 ≡ Some (negsuc 1)
minus_two = refl

minus_one_and_a_half : signed32_at (255 ∷ 254 ∷ 128 ∷ 0 ∷ []) 0 ≡ Some (negsuc 98303)
minus_one_and_a_half = refl

the_ends_of_32_bits : map (λ b. signed32_at b 0) ((127 ∷ 255 ∷ 255 ∷ 255 ∷ []) ∷ (128 ∷ 0 ∷ 0 ∷ 0 ∷ []) ∷ (0 ∷ 0 ∷ 0 ∷ []) ∷ [])
    ≡ Some (pos 2147483647) ∷ Some (negsuc 2147483647) ∷ None ∷ []
the_ends_of_32_bits = refl

-- a half goes up, below 0 too
halves_go_up : map (λ n. rounded_quotient n (pos 2)) (pos 1 ∷ negsuc 0 ∷ negsuc 2 ∷ []) ≡ pos 1 ∷ pos 0 ∷ negsuc 0 ∷ []
halves_go_up = refl

negative_divisor : rounded_quotient (pos 3) (negsuc 1) ≡ negsuc 0
negative_divisor = refl
