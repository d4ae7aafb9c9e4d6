-- The defects that the advances of some glyphs can meet in a font: only at an instance without HVAR is anything read.
use Rattle.std.specs.Prelude.{◌≡◌, ℕ, true, List, Option, Some, Result, Err, IsOkAnd, ◌⊎◌}
use Rattle.std.specs.List.{slice_get}
use Rattle.tt_core.specs.Faults.{Fault}
use Rattle.tt_face.specs.Defects.{IsGlyphTableDefect}
use Rattle.tt_face.specs.Faces.{Face, finds_advances, glyphs_in}
use Rattle.tt_glyf.specs.Loca.{Glyf}
use Rattle.tt_advances.specs.Found.{glyph_units}

-- one of some glyphs is refused
abbrev pub RefusesOne : (ℕ → Result ℕ Fault) → List ℕ → Fault → Type 0
RefusesOne found gs fault = (i : ℕ) × (g : ℕ) × (slice_get gs i ≡ Some g) × (found g ≡ Err fault)

-- a defect of loca or glyf, or of the data of one of some glyphs
abbrev pub IsAdvanceDefect : Face → List ℕ → Fault → Type 0
IsAdvanceDefect face gs fault = (finds_advances face ≡ true) × (IsGlyphTableDefect face fault
    ⊎ IsOkAnd (glyphs_in face) (λ t. RefusesOne (glyph_units face.instance face.metrics t) gs fault))
