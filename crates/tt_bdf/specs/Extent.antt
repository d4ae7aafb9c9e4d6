-- Adobe, "Glyph Bitmap Distribution Format (BDF) Specification", version 2.1: FONTBOUNDINGBOX. Here it is the least box
-- that holds the ink of all characters (profile).
use Rattle.std.specs.Prelude.{◌≡◌, refl, ◌^◌, ◌<◌, ◌≤◌, ◌==◌, if◌then◌else◌, ℤ, pos, negsuc, ◌+ℤ◌, ◌-ℤ◌, unsigned_abs, List, [], ◌∷◌, Option, Some, None}
use Rattle.std.specs.Int.{int_max, int_min}
use Rattle.tt_core.specs.Limits.{height_limit, width_limit}
use Rattle.tt_bdf.specs.declared.character.BdfCharacter.{BdfCharacter}
use Rattle.tt_bdf.specs.declared.extent.InkExtent.{InkExtent}

-- the lower edge of a character's ink: `top` is the upper edge of the highest row
abbrev pub bottom_of : BdfCharacter → ℤ
bottom_of c = c.top -ℤ pos c.height

-- the box of a character's ink, if it has any
abbrev pub box_of : BdfCharacter → Option InkExtent
box_of c = if c.width == 0 then None else Some (record {
  left = c.left;
  bottom = bottom_of c;
  right = c.left +ℤ pos c.width;
  top = c.top;
})

-- the least box that holds two boxes
abbrev pub joined_boxes : InkExtent → InkExtent → InkExtent
joined_boxes a b = record {
  left = int_min a.left b.left;
  bottom = int_min a.bottom b.bottom;
  right = int_max a.right b.right;
  top = int_max a.top b.top;
}

abbrev pub joined : Option InkExtent → Option InkExtent → Option InkExtent
joined None b = b
joined (Some a) None = Some a
joined (Some a) (Some b) = Some (joined_boxes a b)

-- the limits of a character's box
pub record IsLimited (c : BdfCharacter) : Type 0 where
  pub left : unsigned_abs c.left < 2 ^ 20
  pub top : unsigned_abs c.top < 2 ^ 20
  pub width : c.width ≤ width_limit
  pub height : c.height ≤ height_limit

-- a box enlarged by the ink of some characters
abbrev pub joined_from : Option InkExtent → List BdfCharacter → Option InkExtent
joined_from all [] = all
joined_from all (c ∷ cs) = joined_from (joined all (box_of c)) cs

abbrev pub IsNear : InkExtent → Type 0
IsNear e =
    (unsigned_abs e.left < 2 ^ 21) × (unsigned_abs e.bottom < 2 ^ 21) × (unsigned_abs e.right < 2 ^ 21)
    × (unsigned_abs e.top < 2 ^ 21)

-- worked values: a character with ink left of its pen and below the base line, one high above, and a blank
abbrev some_ink : BdfCharacter
some_ink = record { code = 65; units = 256; advance = 4; left = negsuc 1; top = pos 5; width = 7; height = 6; at = 0 }

abbrev high_ink : BdfCharacter
high_ink = record { code = 66; units = 256; advance = 4; left = pos 1; top = pos 8; width = 2; height = 2; at = 6 }

abbrev no_ink : BdfCharacter
no_ink = record { code = 67; units = 256; advance = 4; left = pos 0; top = pos 0; width = 0; height = 0; at = 8 }

all_ink : joined_from None (some_ink ∷ no_ink ∷ high_ink ∷ [])
    ≡ Some (record { left = negsuc 1; bottom = negsuc 0; right = pos 5; top = pos 8 })
all_ink = refl

-- the corner of a blank is not in the box
one_high_above : joined_from None (no_ink ∷ high_ink ∷ [])
    ≡ Some (record { left = pos 1; bottom = pos 6; right = pos 3; top = pos 8 })
one_high_above = refl

only_blanks : joined_from None (no_ink ∷ []) ≡ None
only_blanks = refl
