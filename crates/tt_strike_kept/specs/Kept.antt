-- No part of the standard: the glyphs that a font at a size caches from line to line, within a limit.
use Rattle.std.specs.Prelude.{◌≡◌, refl, ℕ, ◌+◌, ◌-◌, ◌*◌, ◌^◌, if◌then◌else◌, nat_le, pos, List, [], ◌∷◌, length, None, Some}
use Rattle.std.specs.List.{sum_by}
use Rattle.std.specs.Map.{values_of}
use Rattle.tt_strike_kept.specs.Glyph.{KeptGlyph}

-- glyphs with their numbers, the newest first, and their limit in bytes
pub record Kept : Type 0 where
  pub entries : List (ℕ × KeptGlyph)
  pub most : ℕ

-- the bytes of a glyph: 8 each word of its bitmap, and 224 for its place
abbrev pub bytes_of : KeptGlyph → ℕ
bytes_of g = 8 * length g.bitmap.words + 224

-- the bytes of all glyphs of a list
abbrev pub bytes_in : List (ℕ × KeptGlyph) → ℕ
bytes_in es = sum_by bytes_of (values_of es)

-- the longest front of a list whose glyphs take at most this many bytes
abbrev pub fitting : ℕ → List (ℕ × KeptGlyph) → List (ℕ × KeptGlyph)
fitting room [] = []
fitting room (e ∷ es) = if nat_le (bytes_of e.1) room then e ∷ fitting (room - bytes_of e.1) es else []

-- worked values: a glyph without a word, and one with two words in each of two lines; the lower line is blank
blank : KeptGlyph
blank = record {
  bitmap = record { left = pos 0; top = pos 0; width = 0; height = 0; words = [] };
  ink = None;
  advance_left = pos 256;
  chords = 0;
  crossings = 0;
  counts = record { points = 4; deltas = 0; cost = 0 };
  unfitted = None;
}

dash : KeptGlyph
dash = record blank {
  bitmap = record { left = pos 0; top = pos 1; width = 57; height = 2; words = (2 ^ 64 - 2 ^ 8) ∷ 2 ^ 63 ∷ 0 ∷ 0 ∷ [] };
  ink = Some (record { left = pos 0; bottom = pos 1; right = pos 56; top = pos 1 });
}

three : List (ℕ × KeptGlyph)
three = (7, dash) ∷ (3, blank) ∷ (9, dash) ∷ []

a_blank_glyph_takes_its_place_alone : bytes_of blank ≡ 224
unfolding blank
a_blank_glyph_takes_its_place_alone = refl

a_dash_takes_four_words_more : bytes_of dash ≡ 256
unfolding dash blank
a_dash_takes_four_words_more = refl

three_take_all_their_bytes : bytes_in three ≡ 736
unfolding three dash blank
three_take_all_their_bytes = refl

all_stay_where_they_just_fit : fitting 736 three ≡ three
unfolding three dash blank
all_stay_where_they_just_fit = refl

the_oldest_goes_where_a_byte_lacks : fitting 735 three ≡ (7, dash) ∷ (3, blank) ∷ []
unfolding three dash blank
the_oldest_goes_where_a_byte_lacks = refl

no_smaller_one_stays_behind_one_that_goes : fitting 255 three ≡ []
unfolding three dash blank
no_smaller_one_stays_behind_one_that_goes = refl
