-- The units of a text's lines, each with its character, its glyph and its steps.
use Rattle.std.specs.Prelude.{◌≡◌, refl, ℕ, ℤ, pos, negsuc, List, [], ◌∷◌, chars, map, None}
use Rattle.std.specs.List.{flat_map}
use Rattle.tt_cmap.specs.Maps.{CharacterMap, glyph_of_unit, units_by}
use Rattle.tt_cmap.specs.declared.units.TextUnit.{TextUnit}
use Rattle.tt_line.specs.Labels.{label_lines}
use Rattle.tt_line.specs.Steps.{kerning_before, step_in_pixels}
use Rattle.tt_metrics.specs.declared.head.LocaFormat.TheVariants.{Short}
use Rattle.tt_metrics.specs.declared.heights.Heights.TheVariants.{Exact}
use Rattle.tt_metrics.specs.Metrics.{Metrics}
use Rattle.tt_rows.specs.declared.unit.RowUnit.{RowUnit}

-- a unit of a text, which has no step yet
abbrev pub unit_of : CharacterMap → TextUnit → RowUnit
unit_of cmap u = record { character = u.character; glyph = glyph_of_unit cmap u; step = 0; kerned = 0 }

-- those of a line
abbrev pub line_units : CharacterMap → List ℕ → List RowUnit
line_units cmap line = map (unit_of cmap) (units_by cmap (chars line))

-- those of a text, line by line
abbrev pub text_units : CharacterMap → List ℕ → List (List RowUnit)
text_units cmap text = map (line_units cmap) (label_lines text)

abbrev pub unit_glyphs : List RowUnit → List ℕ
unit_glyphs us = map (λ u. u.glyph) us

-- the glyphs of some lines, one after the other
abbrev pub all_glyphs : List (List RowUnit) → List ℕ
all_glyphs lines = flat_map unit_glyphs lines

-- a unit with its steps, by a function of a glyph and its kerning: at the end of a row, and before the next unit
abbrev pub with_steps : (ℕ → ℤ → ℕ) → RowUnit → ℤ → RowUnit
with_steps step u kerning =
    record { character = u.character; glyph = u.glyph; step = step u.glyph (pos 0); kerned = step u.glyph kerning }

abbrev pub stepped_units : Metrics → (ℕ → ℤ → ℕ) → List RowUnit → List RowUnit
stepped_units m step [] = []
stepped_units m step (u ∷ us) = with_steps step u (kerning_before m u.glyph (unit_glyphs us)) ∷ stepped_units m step us

abbrev pub stepped_lines : Metrics → (ℕ → ℤ → ℕ) → List (List RowUnit) → List (List RowUnit)
stepped_lines m step lines = map (stepped_units m step) lines

-- worked values: 1,024 units in an em, and glyphs that are 256 wide
its_metrics : Metrics
its_metrics = record {
  head = record { units_per_em = 1024; loca_format = Short };
  maxp = record { glyphs = 3; twilight = 0; storage = 0 };
  hhea = record { ascent = pos 256; descent = pos 0; line_gap = pos 0; long_metrics = 1 };
  hmtx = 1 ∷ 0 ∷ 0 ∷ 0 ∷ [];
  heights = Exact;
  kerning = None;
  advances = None;
}

letter : ℕ → ℕ → RowUnit
letter step kerned = record { character = 0x41; glyph = 1; step = step; kerned = kerned }

two_letters : stepped_units its_metrics (step_in_pixels its_metrics 16) (letter 0 0 ∷ letter 0 0 ∷ []) ≡ letter 4 4 ∷ letter 4 4 ∷ []
unfolding its_metrics letter
two_letters = refl
