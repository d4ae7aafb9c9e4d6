-- No part of the standard: the request `bdf` (profile).
use Rattle.std.specs.Prelude.{◌≡◌, refl, ℕ, List, [], ◌∷◌, codes, Option, Some, None, option_map}
use Rattle.tt_bdf.specs.declared.range.CodeRange.{CodeRange}
use Rattle.tt_bdf.specs.Ranges.{ranges_of}
use Rattle.tt_face.specs.declared.instance.AskedInstance.{AskedInstance}
use Rattle.tt_fit.specs.declared.programs.Fit.{Fit}
use Rattle.tt_metrics.specs.declared.heights.Heights.{Heights}
use Rattle.tt_program_decisions.specs.declared.bdf.BdfRequest.{BdfRequest}

-- a font, a size, a way to fit, the number of a face if there is one, the rounding of heights, the words of
-- ranges if there are any, a text, and the instance if there is one
pub record BdfAsked : Type 0 where
  pub font : List ℕ
  pub size : ℕ
  pub fit : Fit
  pub face : Option ℕ
  pub heights : Heights
  pub range : Option (List ℕ)
  pub text : List ℕ
  pub instance : Option AskedInstance

abbrev pub bdf_view : BdfRequest → BdfAsked
bdf_view b = record {
  font = b.font.now;
  size = b.size;
  fit = b.fit;
  face = b.face;
  heights = b.heights;
  range = option_map (λ s. s.now) b.range;
  text = b.text.now;
  instance = b.instance;
}

-- the ranges where neither ranges nor a text are given: the printable characters of ASCII and of Latin-1
abbrev pub default_range : List ℕ
default_range = codes "20-7E,A0-FF"

-- the words of the ranges, by those of `--range` and by TEXT
abbrev pub range_words : Option (List ℕ) → Option (List ℕ) → Option (List ℕ)
range_words (Some words) text = Some words
range_words None (Some text) = None
range_words None None = Some default_range

abbrev pub text_or_none : Option (List ℕ) → List ℕ
text_or_none (Some text) = text
text_or_none None = []

-- the ranges of such words, if the words are of the right form
abbrev pub ranges_asked : Option (List ℕ) → Option (List CodeRange)
ranges_asked None = Some []
ranges_asked (Some words) = ranges_of words

-- worked values
abbrev codes_to : ℕ → ℕ → CodeRange
codes_to a b = record { first = a; last = b }

neither_given : ranges_asked (range_words None None) ≡ Some (codes_to 0x20 0x7E ∷ codes_to 0xA0 0xFF ∷ [])
unfolding ranges_of
neither_given = refl

a_text_alone : ranges_asked (range_words None (Some (codes "A"))) ≡ Some []
a_text_alone = refl

a_range_beside_a_text : ranges_asked (range_words (Some (codes "42")) (Some (codes "A"))) ≡ Some (codes_to 0x42 0x42 ∷ [])
unfolding ranges_of
a_range_beside_a_text = refl
