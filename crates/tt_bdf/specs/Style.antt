-- X Consortium, "X Logical Font Description Conventions": FAMILY_NAME, which has none of the characters `-`, `*`, `?`, `,`
-- and `"`. OpenType, "head", macStyle: bit 0 is bold, bit 1 is italic. A blank stands for each character that a family
-- name may not have; a family without a name is `unknown` (profile).
use Rattle.std.specs.Prelude.{◌≡◌, refl, ℕ, zero, suc, ◌/◌, ◌%◌, Bool, true, false, not, ◌&&◌, ◌||◌, ◌==◌, nat_le, if◌then◌else◌, List, [], ◌∷◌, length, map, take, slice_index, codes}

abbrev pub is_divider : ℕ → Bool
is_divider c = (c == 45) || (c == 42) || (c == 63) || (c == 44) || (c == 34)

-- a character of a family name: a blank for each that is no visible character of ASCII, and for the dividers
abbrev pub family_character : ℕ → ℕ
family_character c = if nat_le 0x21 c && (nat_le c 0x7E && not (is_divider c)) then c else 32

abbrev pub is_visible : ℕ → Bool
is_visible c = not (family_character c == 32)

-- a name from its first character that is no blank on
abbrev pub without_front : List ℕ → List ℕ
without_front [] = []
without_front (x ∷ xs) = if is_visible x then x ∷ xs else without_front xs

-- how many of a name's first n characters are left without the blanks at their end
abbrev pub end_within : List ℕ → ℕ → ℕ
end_within xs zero = 0
end_within xs (suc n) = if is_visible (slice_index xs n) then suc n else end_within xs n

abbrev pub trimmed : List ℕ → List ℕ
trimmed xs = without_front (take (end_within xs (length xs)) xs)

abbrev pub or_unknown : List ℕ → List ℕ
or_unknown [] = codes "unknown"
or_unknown (x ∷ xs) = x ∷ xs

-- the family's name by the name of a font
unfoldable pub family_of : List ℕ → List ℕ
family_of told = or_unknown (map family_character (trimmed told))

abbrev pub is_bold : ℕ → Bool
is_bold style = style % 2 == 1

abbrev pub is_italic : ℕ → Bool
is_italic style = style / 2 % 2 == 1

-- worked values
dividers : family_of (codes "Test-Font, Gr??e \"1\"") ≡ codes "Test Font  Gr  e  1"
unfolding family_of
dividers = refl

blanks_at_both_ends : family_of (codes "  *DejaVu Sans Mono- ") ≡ codes "DejaVu Sans Mono"
unfolding family_of
blanks_at_both_ends = refl

no_name : family_of [] ≡ codes "unknown"
unfolding family_of
no_name = refl

only_dividers : family_of (codes "?-?") ≡ codes "unknown"
unfolding family_of
only_dividers = refl

styles : map is_bold (0 ∷ 1 ∷ 2 ∷ 3 ∷ 4 ∷ []) ≡ false ∷ true ∷ false ∷ true ∷ false ∷ []
styles = refl

slants : map is_italic (0 ∷ 1 ∷ 2 ∷ 3 ∷ 4 ∷ []) ≡ false ∷ false ∷ true ∷ true ∷ false ∷ []
slants = refl
