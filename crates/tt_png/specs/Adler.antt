-- RFC 1950, "ZLIB Compressed Data Format Specification", sections 2.2 and 9: Adler-32.
use Rattle.std.specs.Prelude.{◌≡◌, refl, ℕ, ◌+◌, ◌*◌, ◌%◌, List, [], ◌∷◌, codes, replicate}

-- the value, from the bytes on and the sums before them: the first sum is 1 and all bytes, the second is all first sums.
-- Both are modulo 65521, the greatest prime below 2^16
abbrev pub adler_from : ℕ → ℕ → List ℕ → ℕ
adler_from first second [] = second % 65521 * 65536 + first % 65521
adler_from first second (byte ∷ bytes) = adler_from (first + byte) (second + (first + byte)) bytes

-- the Adler-32 of bytes
abbrev pub adler_32 : List ℕ → ℕ
adler_32 bytes = adler_from 1 0 bytes

-- worked values: nothing, a name, and bytes whose sums are above 65521
nothing : adler_32 [] ≡ 1
nothing = refl

a_name : adler_32 (codes "Wikipedia") ≡ 0x11E60398
a_name = refl

long : adler_32 (replicate 300 0xFF) ≡ 0xB90F2AE4
long = refl
