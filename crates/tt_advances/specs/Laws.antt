-- Lemmas about the definitions: without an instance, and at one with HVAR, the advances are those of the tables.
use Rattle.std.specs.Prelude.{◌≡◌, ℕ, ℤ, false, List, None, Result, Ok}
use Rattle.tt_core.specs.Directory.{HasNo}
use Rattle.tt_face.specs.Faces.{Face, finds_advances}
use Rattle.tt_line.specs.Steps.{linear_line, step_in_pixels}
use Rattle.tt_metrics.specs.Metrics.{advance_of}
use Rattle.tt_advances.specs.Defects.{IsAdvanceDefect}
use Rattle.tt_advances.specs.Found.{advances_tested, units_of}
use Rattle.tt_advances.specs.Lines.{advance_line, advance_step}

-- no glyph is read, and every line is laid out by the advances of the tables
pub record HasPlainAdvances (face : Face) : Type 0 where
  pub units : (g : ℕ) → units_of face g ≡ advance_of face.metrics g
  pub step : (ppem g : ℕ) (k : ℤ) → advance_step face ppem g k ≡ step_in_pixels face.metrics ppem g k
  pub line : (ppem : ℕ) (gs : List ℕ) → advance_line face ppem gs ≡ linear_line face.metrics ppem gs
  pub tested : (gs : List ℕ) → advances_tested face gs ≡ Ok tt

abbrev pub TablesGiveAdvances : Type 0
TablesGiveAdvances = (face : Face) → finds_advances face ≡ false → HasPlainAdvances face

abbrev pub DefaultsGiveAdvances : Type 0
DefaultsGiveAdvances = (face : Face) → face.instance ≡ None → HasPlainAdvances face

-- glyphs whose advances are found have no defect for that
abbrev pub FoundAdvancesAreWhole : Type 0
FoundAdvancesAreWhole = (face : Face) (gs : List ℕ) → advances_tested face gs ≡ Ok tt → HasNo (IsAdvanceDefect face gs)
