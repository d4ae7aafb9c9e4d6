-- OpenType, "Data types". A number that isn't whole within its table is 0 (profile).
use Rattle.std.specs.Prelude.{◌≡◌, refl, ℕ, List, [], ◌∷◌, ℤ, negsuc}
use Rattle.std.specs.Option.{unwrap_or}
use Rattle.tt_core.specs.Numbers.{number_at, signed16}

-- the uint16 at an offset
unfoldable pub word : List ℕ → ℕ → ℕ
word b at = unwrap_or (number_at b at 2) 0

-- the uint32 at an offset
unfoldable pub long : List ℕ → ℕ → ℕ
long b at = unwrap_or (number_at b at 4) 0

-- the int16 at an offset
abbrev pub signed : List ℕ → ℕ → ℤ
signed b at = signed16 (word b at)

-- worked values
a_word : word (1 ∷ 2 ∷ 3 ∷ []) 1 ≡ 515
unfolding word
a_word = refl

half_a_word : word (1 ∷ 2 ∷ 3 ∷ []) 2 ≡ 0
unfolding word
half_a_word = refl

a_long : long (0 ∷ 1 ∷ 0 ∷ 0 ∷ []) 0 ≡ 65536
unfolding long
a_long = refl

minus_64 : signed (255 ∷ 192 ∷ []) 0 ≡ negsuc 63
unfolding word
minus_64 = refl
