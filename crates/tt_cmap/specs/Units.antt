-- Unicode, "Variation Selectors", and OpenType, "cmap", format 14: a text as units. A unit is a character that is no
-- selector, with the selector that directly follows. Every other selector is passed over (profile). Where selectors are
-- characters like others, each character is a unit.
use Rattle.std.specs.Prelude.{◌≡◌, refl, ℕ, Bool, true, false, ◌&&◌, ◌||◌, nat_le, if◌then◌else◌, List, [], ◌∷◌, Option, Some, None}
use Rattle.tt_cmap.specs.declared.units.TextUnit.{TextUnit}

abbrev pub is_selector : ℕ → Bool
is_selector c = (nat_le 0xFE00 c && nat_le c 0xFE0F) || (nat_le 0xE0100 c && nat_le c 0xE01EF)

abbrev pub character_of : TextUnit → ℕ
character_of u = u.character

abbrev pub plain_unit : ℕ → TextUnit
plain_unit c = record { character = c; selector = None }

abbrev pub selected_unit : ℕ → ℕ → TextUnit
selected_unit c v = record { character = c; selector = Some v }

-- the selector at the start of a text
abbrev pub first_selector : List ℕ → Option ℕ
first_selector [] = None
first_selector (v ∷ cs) = if is_selector v then Some v else None

-- the selector that follows a character, by the text after that; without pairs, selectors are characters like others
abbrev pub selector_before : Bool → List ℕ → Option ℕ
selector_before false cs = None
selector_before true cs = first_selector cs

abbrev pub unit_before : Bool → ℕ → List ℕ → TextUnit
unit_before pairs c cs = record { character = c; selector = selector_before pairs cs }

-- the units of a text
abbrev pub units : Bool → List ℕ → List TextUnit
units pairs [] = []
units pairs (c ∷ cs) = if pairs && is_selector c then units pairs cs else unit_before pairs c cs ∷ units pairs cs

-- worked values: A, B, and the selectors FE00, FE01 and E0100
with_their_selectors : units true (65 ∷ 0xFE00 ∷ 66 ∷ 0xE0100 ∷ []) ≡ selected_unit 65 0xFE00 ∷ selected_unit 66 0xE0100 ∷ []
with_their_selectors = refl

passed_over : units true (0xFE00 ∷ 65 ∷ 0xFE01 ∷ 0xFE01 ∷ 66 ∷ []) ≡ selected_unit 65 0xFE01 ∷ plain_unit 66 ∷ []
passed_over = refl

a_selector_alone : units true (0xFE00 ∷ []) ≡ []
a_selector_alone = refl

each_character : units false (65 ∷ 0xFE00 ∷ []) ≡ plain_unit 65 ∷ plain_unit 0xFE00 ∷ []
each_character = refl

no_selector : units true (65 ∷ 0xFDFF ∷ 0xFE10 ∷ []) ≡ plain_unit 65 ∷ plain_unit 0xFDFF ∷ plain_unit 0xFE10 ∷ []
no_selector = refl
