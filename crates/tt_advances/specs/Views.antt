-- No part of the standard: advances that are found once for each glyph.
use Rattle.std.specs.Prelude.{◌≡◌, ℕ, zero, suc, ◌<◌, ◌^◌, List, Ok, ⊤}
use Rattle.std.specs.List.{slice_index}
use Rattle.tt_face.specs.Faces.{Face}
use Rattle.tt_glyf.specs.Loca.{Glyf}
use Rattle.tt_advances.specs.Found.{glyph_units}

-- a face, and its glyph data
pub record Finder : Type 0 where
  pub face : Face
  pub tables : Glyf

-- 0, or one more than the advance of a glyph
abbrev pub IsFoundAt : Finder → ℕ → ℕ → Type 0
IsFoundAt f g zero = ⊤
IsFoundAt f g (suc n) = (n < 2 ^ 16) × (glyph_units f.face.instance f.face.metrics f.tables g ≡ Ok n)

-- the table of all glyphs has such numbers
abbrev pub AreFound : Finder → List ℕ → Type 0
AreFound f known = (g : ℕ) → IsFoundAt f g (slice_index known g)
