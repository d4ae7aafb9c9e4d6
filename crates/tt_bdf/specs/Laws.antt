-- Laws of the definitions, as statements; src/laws.rt proves them.
use Rattle.std.specs.Prelude.{◌≡◌, ◌≢◌, ℕ, ◌<◌, ◌≤◌, false, ℤ, ◌≤ℤ◌, List, codes, Option, Some, None, Ok, All, AllPairs, Any, Contains, IfSome, IsSomeAnd}
use Rattle.tt_bdf.specs.Asked.{file_characters, is_surrogate}
use Rattle.tt_bdf.specs.declared.character.BdfCharacter.{BdfCharacter}
use Rattle.tt_bdf.specs.declared.extent.InkExtent.{InkExtent}
use Rattle.tt_bdf.specs.declared.range.CodeRange.{CodeRange}
use Rattle.tt_bdf.specs.Extent.{box_of, joined_from}
use Rattle.tt_bdf.specs.Head.{box_text}
use Rattle.tt_bdf.specs.Ranges.{last_code}
use Rattle.tt_cmap.specs.Maps.{CharacterMap, glyph_of_unit}
use Rattle.tt_cmap.specs.Units.{is_selector, plain_unit}

-- each number of a list is below every later one
abbrev pub Rises : List ℕ → Type 0
Rises ns = AllPairs (λ a b. a < b) ns

-- a code point lies in one of some ranges
abbrev pub IsInSome : List CodeRange → ℕ → Type 0
IsInSome rs c = Any (λ (r : CodeRange). (r.first ≤ c) × (c ≤ r.last)) rs

-- a code point that belongs in a file: it is asked for, the font has a glyph for it, and it is no surrogate and no
-- variation selector
pub record BelongsIn (m : CharacterMap) (rs : List CodeRange) (c : ℕ) : Type 0 where
  pub asked : IsInSome rs c
  pub glyph : glyph_of_unit m (plain_unit c) ≢ 0
  pub surrogate : is_surrogate c ≡ false
  pub selector : is_selector c ≡ false

-- the code points of a file rise, so none stands twice
abbrev pub CodesRise : Type 0
CodesRise = (m : CharacterMap) (rs : List CodeRange) (cs : List ℕ) → file_characters m rs ≡ Ok cs → Rises cs

-- they are those that belong in the file, and no others
abbrev pub CodesBelong : Type 0
CodesBelong = (m : CharacterMap) (rs : List CodeRange) (cs : List ℕ) → file_characters m rs ≡ Ok cs
    → All (BelongsIn m rs) cs

abbrev pub NoneIsLeftOut : Type 0
NoneIsLeftOut = (m : CharacterMap) (rs : List CodeRange) (cs : List ℕ) (c : ℕ) → file_characters m rs ≡ Ok cs
    → c ≤ last_code → BelongsIn m rs c → Contains cs c

-- a box holds another one
pub record HoldsBox (e b : InkExtent) : Type 0 where
  pub left : e.left ≤ℤ b.left
  pub bottom : e.bottom ≤ℤ b.bottom
  pub right : b.right ≤ℤ e.right
  pub top : b.top ≤ℤ e.top

-- the ink of some character has this side at the same place
abbrev pub Touches : (InkExtent → ℤ) → InkExtent → List BdfCharacter → Type 0
Touches side e cs = Any (λ c. IsSomeAnd (box_of c) (λ b. side b ≡ side e)) cs

-- the least box that holds the ink of all characters: each of its sides touches the ink of one
pub record IsLeastBox (cs : List BdfCharacter) (e : InkExtent) : Type 0 where
  pub holds : All (λ c. IfSome (box_of c) (HoldsBox e)) cs
  pub left : Touches (λ b. b.left) e cs
  pub bottom : Touches (λ b. b.bottom) e cs
  pub right : Touches (λ b. b.right) e cs
  pub top : Touches (λ b. b.top) e cs

abbrev pub AreWithoutInk : List BdfCharacter → Type 0
AreWithoutInk cs = All (λ (c : BdfCharacter). c.width ≡ 0) cs

-- None: no character has ink
abbrev pub IsBoxOfInk : List BdfCharacter → Option InkExtent → Type 0
IsBoxOfInk cs None = AreWithoutInk cs
IsBoxOfInk cs (Some e) = IsLeastBox cs e

abbrev pub BoxIsLeast : Type 0
BoxIsLeast = (cs : List BdfCharacter) → IsBoxOfInk cs (joined_from None cs)

-- without ink the box is four zeros
abbrev pub BlanksHaveZeros : Type 0
BlanksHaveZeros = (cs : List BdfCharacter) → AreWithoutInk cs
    → box_text (joined_from None cs) ≡ codes "FONTBOUNDINGBOX 0 0 0 0\n"
