-- No part of the standard: characters that are reported to people, since a picture of them is not what may be expected
-- (profile). The ranges are this page's own; no table of Unicode is read.
use Rattle.std.specs.Prelude.{◌≡◌, refl, ℕ, Bool, true, false, ◌&&◌, nat_le, List, [], ◌∷◌, map, find, codes, Some}
use Rattle.std.specs.List.{list_all, list_any}
use Rattle.tt_advice.specs.declared.signs.Sign.{Sign}
use Rattle.tt_advice.specs.declared.signs.Sign.TheVariants as sign

-- a range has its first and its last character
abbrev pub in_range : ℕ → (ℕ × ℕ) → Bool
in_range c r = nat_le r.0 c && nat_le c r.1

abbrev pub in_ranges : List (ℕ × ℕ) → ℕ → Bool
in_ranges ranges c = list_any (in_range c) ranges

-- control characters
abbrev pub control : List (ℕ × ℕ)
control = (0x0, 0x1F) ∷ (0x7F, 0x9F) ∷ []

-- the blocks whose characters are written from right to left
abbrev pub right_to_left : List (ℕ × ℕ)
right_to_left =
    (0x590, 0x8FF) ∷ (0xFB1D, 0xFDCF) ∷ (0xFDF0, 0xFDFF) ∷ (0xFE70, 0xFEFE) ∷ (0x10800, 0x10FFF) ∷ (0x1E800, 0x1EFFF) ∷ []

-- the blocks of scripts whose letters take other forms beside each other
abbrev pub shaped : List (ℕ × ℕ)
shaped =
    (0x900, 0x109F) ∷ (0x1100, 0x11FF) ∷ (0x1700, 0x18AF) ∷ (0x1900, 0x1AAF) ∷ (0x1B00, 0x1C4F) ∷ (0x1CD0, 0x1CFF)
    ∷ (0xA800, 0xA82F) ∷ (0xA840, 0xA8FF) ∷ (0xA930, 0xAAFF) ∷ (0xABC0, 0xABFF) ∷ (0xD7B0, 0xD7FF) ∷ (0x11000, 0x11FFF) ∷ []

-- marks, joiners, flags, colours of skin and tags, which join the character beside them
abbrev pub joining : List (ℕ × ℕ)
joining =
    (0x300, 0x36F) ∷ (0x483, 0x489) ∷ (0x1AB0, 0x1AFF) ∷ (0x1DC0, 0x1DFF) ∷ (0x200C, 0x200D) ∷ (0x20D0, 0x20FF)
    ∷ (0x2DE0, 0x2DFF) ∷ (0x302A, 0x302F) ∷ (0x3099, 0x309A) ∷ (0xFE20, 0xFE2F) ∷ (0x1F1E6, 0x1F1FF) ∷ (0x1F3FB, 0x1F3FF)
    ∷ (0xE0020, 0xE007F) ∷ []

-- whether a character has a sign
unfoldable pub is_of : Sign → ℕ → Bool
is_of sign.Control c = in_ranges control c
is_of sign.RightToLeft c = in_ranges right_to_left c
is_of sign.Shaped c = in_ranges shaped c
is_of sign.Joining c = in_ranges joining c

-- the printed characters of ASCII
abbrev pub is_printed : ℕ → Bool
is_printed b = nat_le 0x20 b && nat_le b 0x7E

-- whether the bytes of a text are these alone
abbrev pub is_plain : List ℕ → Bool
is_plain text = list_all is_printed text

-- worked values: the characters at and beside the ends of ranges
controls : map (is_of sign.Control) (0x0 ∷ 0x1F ∷ 0x20 ∷ 0x7E ∷ 0x7F ∷ 0x9F ∷ 0xA0 ∷ [])
    ≡ true ∷ true ∷ false ∷ false ∷ true ∷ true ∷ false ∷ []
unfolding is_of
controls = refl

hebrew_and_arabic : map (is_of sign.RightToLeft) (0x58F ∷ 0x590 ∷ 0x8FF ∷ 0x900 ∷ 0xFB1C ∷ 0xFB1D ∷ 0xFDCF ∷ 0xFDD0 ∷ 0xFDEF ∷ 0xFDF0 ∷ 0xFE6F ∷ 0xFE70 ∷ 0xFEFE ∷ 0xFEFF ∷ [])
    ≡ false ∷ true ∷ true ∷ false ∷ false ∷ true ∷ true ∷ false ∷ false ∷ true ∷ false ∷ true ∷ true ∷ false ∷ []
unfolding is_of
hebrew_and_arabic = refl

beyond_the_first_plane : map (is_of sign.RightToLeft) (0x107FF ∷ 0x10800 ∷ 0x10FFF ∷ 0x11000 ∷ 0x1E7FF ∷ 0x1E800 ∷ 0x1EFFF ∷ 0x1F000 ∷ [])
    ≡ false ∷ true ∷ true ∷ false ∷ false ∷ true ∷ true ∷ false ∷ []
unfolding is_of
beyond_the_first_plane = refl

scripts : map (is_of sign.Shaped) (0x8FF ∷ 0x900 ∷ 0x109F ∷ 0x10A0 ∷ 0x1100 ∷ 0x11FF ∷ 0x1200 ∷ 0x18AF ∷ 0x18B0 ∷ 0x1AB0 ∷ 0x1C50 ∷ 0x1CFF ∷ 0xA830 ∷ 0xAAFF ∷ 0xAB00 ∷ 0xAC00 ∷ 0xD7B0 ∷ 0x11FFF ∷ 0x12000 ∷ [])
    ≡ false ∷ true ∷ true ∷ false ∷ true ∷ true ∷ false ∷ true ∷ false ∷ false ∷ false ∷ true ∷ false ∷ true ∷ false ∷ false ∷ true ∷ true ∷ false ∷ []
unfolding is_of
scripts = refl

marks : map (is_of sign.Joining) (0x2FF ∷ 0x300 ∷ 0x36F ∷ 0x370 ∷ 0x200B ∷ 0x200C ∷ 0x200D ∷ 0x200E ∷ 0x3098 ∷ 0x3099 ∷ 0x309A ∷ 0x309B ∷ 0x1F1E5 ∷ 0x1F1E6 ∷ 0x1F3FF ∷ 0x1F400 ∷ 0xE001F ∷ 0xE0020 ∷ 0xE007F ∷ 0xE0080 ∷ [])
    ≡ false ∷ true ∷ true ∷ false ∷ false ∷ true ∷ true ∷ false ∷ false ∷ true ∷ true ∷ false ∷ false ∷ true ∷ true ∷ false ∷ false ∷ true ∷ true ∷ false ∷ []
unfolding is_of
marks = refl

the_first_that_is_told : find (is_of sign.Joining) (0x65 ∷ 0x301 ∷ 0x300 ∷ []) ≡ Some 0x301
unfolding is_of
the_first_that_is_told = refl

the_printed_ones : map is_printed (0x0 ∷ 0x1F ∷ 0x20 ∷ 0x41 ∷ 0x7E ∷ 0x7F ∷ 0x80 ∷ 0xC3 ∷ 0xFF ∷ [])
    ≡ false ∷ false ∷ true ∷ true ∷ true ∷ false ∷ false ∷ false ∷ false ∷ []
the_printed_ones = refl

plain_texts : map is_plain ([] ∷ codes "a b~" ∷ codes "a\tb" ∷ (0x61 ∷ 0x7F ∷ []) ∷ (0xC3 ∷ 0xA9 ∷ []) ∷ [])
    ≡ true ∷ true ∷ false ∷ false ∷ false ∷ []
plain_texts = refl
