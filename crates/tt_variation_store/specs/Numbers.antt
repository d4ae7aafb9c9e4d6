-- OpenType, "Data types". A number that isn't whole within its table is 0 (profile).
use Rattle.std.specs.Prelude.{◌≡◌, refl, ℕ, ◌*◌, ◌^◌, nat_lt, if◌then◌else◌, List, [], ◌∷◌, ℤ, pos, negsuc, ◌-ℤ◌, int_lt, unsigned_abs, map}
use Rattle.std.specs.Option.{unwrap_or}
use Rattle.tt_core.specs.Numbers.{number_at}

-- the number in the bytes at an offset, by their count
unfoldable pub number : List ℕ → ℕ → ℕ → ℕ
number b at size = unwrap_or (number_at b at size) 0

abbrev pub byte : List ℕ → ℕ → ℕ
byte b at = number b at 1

-- the uint16 at an offset
abbrev pub word : List ℕ → ℕ → ℕ
word b at = number b at 2

-- the uint32 at an offset
abbrev pub long : List ℕ → ℕ → ℕ
long b at = number b at 4

-- a number below a span, read as two's complement
abbrev pub twos_complement : ℕ → ℕ → ℤ
twos_complement span n = if nat_lt (2 * n) span then pos n else pos n -ℤ pos span

-- the signed number in the bytes at an offset
abbrev pub signed : List ℕ → ℕ → ℕ → ℤ
signed b at size = twos_complement (256 ^ size) (number b at size)

-- the nearest number within two bounds
abbrev pub kept_within : ℤ → ℤ → ℤ → ℤ
kept_within least most z = if int_lt z least then least else (if int_lt most z then most else z)

-- the nearest number that an int16 holds
abbrev pub kept_int16 : ℤ → ℤ
kept_int16 z = kept_within (negsuc 32767) (pos 32767) z

-- the nearest number that a uint16 holds
abbrev pub kept_uint16 : ℤ → ℕ
kept_uint16 z = unsigned_abs (kept_within (pos 0) (pos 65535) z)

-- worked values
a_byte : byte (1 ∷ 2 ∷ []) 1 ≡ 2
unfolding number
a_byte = refl

half_a_word : word (1 ∷ 2 ∷ 3 ∷ []) 2 ≡ 0
unfolding number
half_a_word = refl

three_bytes_of_a_long : long (1 ∷ 2 ∷ 3 ∷ []) 0 ≡ 0
unfolding number
three_bytes_of_a_long = refl

a_signed_byte : signed (0xF0 ∷ []) 0 1 ≡ negsuc 15
unfolding number
a_signed_byte = refl

a_signed_word : signed (0xFE ∷ 0xD4 ∷ []) 0 2 ≡ negsuc 299
unfolding number
a_signed_word = refl

the_least_long : signed (0x80 ∷ 0 ∷ 0 ∷ 0 ∷ []) 0 4 ≡ negsuc 2147483647
unfolding number
the_least_long = refl

the_greatest_long : signed (0x7F ∷ 0xFF ∷ 0xFF ∷ 0xFF ∷ []) 0 4 ≡ pos 2147483647
unfolding number
the_greatest_long = refl

int16s : map kept_int16 (negsuc 32768 ∷ negsuc 32767 ∷ pos 0 ∷ pos 32767 ∷ pos 32768 ∷ [])
    ≡ negsuc 32767 ∷ negsuc 32767 ∷ pos 0 ∷ pos 32767 ∷ pos 32767 ∷ []
int16s = refl

uint16s : map kept_uint16 (negsuc 0 ∷ pos 0 ∷ pos 65535 ∷ pos 65536 ∷ [])
    ≡ 0 ∷ 0 ∷ 65535 ∷ 65535 ∷ []
uint16s = refl
