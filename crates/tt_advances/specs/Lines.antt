-- The steps of a line's glyphs by the advances of a face, at its instance. Apple TrueType Reference Manual, "The 'hmtx'
-- table"; OpenType, "HVAR", "gvar" (phantom points).
use Rattle.std.specs.Prelude.{◌≡◌, ℕ, ℤ, List, map}
use Rattle.tt_face.specs.Faces.{Face}
use Rattle.tt_line.specs.Layout.{depth_of, extent_by, rise_of}
use Rattle.tt_line.specs.Steps.{step_by_units, stepped}
use Rattle.tt_line.specs.declared.extent.PictureExtent.{PictureExtent}
use Rattle.tt_advances.specs.Found.{units_of}

-- the step of a glyph with its kerning
abbrev pub advance_step : Face → ℕ → ℕ → ℤ → ℕ
advance_step face ppem = step_by_units face.metrics ppem (units_of face)

-- each of some glyphs with its step
abbrev pub advance_line : Face → ℕ → List ℕ → List (ℕ × ℕ)
advance_line face ppem gs = stepped face.metrics (advance_step face ppem) gs

-- their steps
abbrev pub advance_steps : Face → ℕ → List ℕ → List ℕ
advance_steps face ppem gs = map (λ g. g.1) (advance_line face ppem gs)

-- the size of their picture with a margin
abbrev pub advance_extent : Face → ℕ → ℕ → List ℕ → PictureExtent
advance_extent face ppem margin gs =
    extent_by (advance_steps face ppem gs) margin (rise_of face.metrics ppem) (depth_of face.metrics ppem)
