-- No part of the standard: where the units of a text begin, in bytes (profile). A unit is a character that is no
-- variation selector; what follows up to the next such character is part of it, or passed over. Where selectors are
-- characters like others, each character is a unit. Unicode, "UTF-8", has the bytes of a character.
use Rattle.std.specs.Prelude.{◌≡◌, refl, ℕ, ◌+◌, ◌<◌, ◌≤◌, Bool, true, false, not, ◌&&◌, if◌then◌else◌, List, [], ◌∷◌, drop, length, map, slice_range, ⊤}
use Rattle.std.specs.Char.{len_utf8}
use Rattle.std.specs.Str.{IsUtf8, chars}
use Rattle.tt_cmap.specs.declared.units.TextUnit.{TextUnit}
use Rattle.tt_c_calls.specs.declared.asked.CJob.{CJob}
use Rattle.tt_c_calls.specs.Asked.{reads_widely}
use Rattle.tt_cmap.specs.Units.{is_selector, plain_unit, selected_unit, units}

-- whether a character begins a unit
abbrev pub begins_unit : Bool → ℕ → Bool
begins_unit pairs c = not (pairs && is_selector c)

-- the offsets of the units of some characters, which begin at a byte
abbrev pub offsets_from : Bool → List ℕ → ℕ → List ℕ
offsets_from pairs [] at = []
offsets_from pairs (c ∷ cs) at =
    let later = offsets_from pairs cs (at + len_utf8 c) in
    if begins_unit pairs c then at ∷ later else later

-- the offset of each unit of a text
abbrev pub unit_offsets : Bool → List ℕ → List ℕ
unit_offsets pairs text = offsets_from pairs (chars text) 0

-- the offset of each unit of a job's text
abbrev pub offsets_asked : CJob → List ℕ → List ℕ
offsets_asked j text = unit_offsets (reads_widely j) text

-- the pieces of a text from each offset up to the next one, and from the last one up to the end
abbrev pub pieces : List ℕ → List ℕ → List (List ℕ)
pieces text [] = []
pieces text (at ∷ []) = drop at text ∷ []
pieces text (at ∷ next ∷ others) = slice_range text at next ∷ pieces text (next ∷ others)

-- each offset is above the one before it, and below an end
abbrev pub AreRising : ℕ → List ℕ → ℕ → Type 0
AreRising low [] end = ⊤
AreRising low (at ∷ others) end = (low ≤ at) × (at < end) × AreRising (at + 1) others end

-- the offsets of a text's units rise, and lie in the text
abbrev pub OffsetsRise : Type 0
OffsetsRise = (pairs : Bool) (text : List ℕ) → IsUtf8 text → AreRising 0 (unit_offsets pairs text) (length text)

-- they cut the text into its units: each piece alone has one unit, which is that of the whole text
abbrev pub OffsetsCutTexts : Type 0
OffsetsCutTexts = (pairs : Bool) (text : List ℕ) → IsUtf8 text
    → map (λ piece. units pairs (chars piece)) (pieces text (unit_offsets pairs text))
    ≡ map (λ (u : TextUnit). u ∷ []) (units pairs (chars text))

-- worked values: A; e with an acute accent, in two bytes; the euro sign, in three; a clef, in four; and A
one_to_four_bytes : unit_offsets true (0x41 ∷ 0xC3 ∷ 0xA9 ∷ 0xE2 ∷ 0x82 ∷ 0xAC ∷ 0xF0 ∷ 0x9D ∷ 0x84 ∷ 0x9E ∷ 0x41 ∷ [])
    ≡ 0 ∷ 1 ∷ 3 ∷ 6 ∷ 10 ∷ []
unfolding chars
one_to_four_bytes = refl

-- a selector of three bytes, a, two selectors, a selector of four bytes, and b
abbrev with_selectors : List ℕ
with_selectors =
    0xEF ∷ 0xB8 ∷ 0x8F ∷ 0x61 ∷ 0xEF ∷ 0xB8 ∷ 0x8F ∷ 0xEF ∷ 0xB8 ∷ 0x8F ∷ 0xF3 ∷ 0xA0 ∷ 0x84 ∷ 0x80 ∷ 0x62 ∷ []

selectors_passed_over : unit_offsets true with_selectors ≡ 3 ∷ 14 ∷ []
unfolding chars
selectors_passed_over = refl

selectors_like_others : unit_offsets false with_selectors ≡ 0 ∷ 3 ∷ 4 ∷ 7 ∷ 10 ∷ 14 ∷ []
unfolding chars
selectors_like_others = refl

selectors_alone : unit_offsets true (0xEF ∷ 0xB8 ∷ 0x8F ∷ []) ≡ []
unfolding chars
selectors_alone = refl

no_text : unit_offsets true [] ≡ []
unfolding chars
no_text = refl

cut_in_two : map (λ piece. units true (chars piece)) (pieces with_selectors (unit_offsets true with_selectors))
    ≡ (selected_unit 0x61 0xFE0F ∷ []) ∷ (plain_unit 0x62 ∷ []) ∷ []
unfolding chars
cut_in_two = refl
