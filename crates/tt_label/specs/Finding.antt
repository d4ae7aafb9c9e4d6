-- No part of the standard: glyphs and units with their steps by advances, which are found first. Only at an instance
-- without HVAR is anything read.
use Rattle.std.specs.Prelude.{ℕ, ℤ, List, Result, Ok}
use Rattle.tt_advances.specs.Found.{advances_tested, all_found, glyph_units, or_zero}
use Rattle.tt_advances.specs.Lines.{advance_step}
use Rattle.tt_advances.specs.Views.{Finder}
use Rattle.tt_core.specs.Faults.{Fault}
use Rattle.tt_core.specs.Outcomes.{◌>>=◌}
use Rattle.tt_face.specs.Faces.{Face}
use Rattle.tt_label.specs.Fitted.{glyphs_in, with_steps}
use Rattle.tt_label.specs.Label.{label_glyphs, stepped_lines}
use Rattle.tt_label_rows.specs.Units as rows
use Rattle.tt_line.specs.Steps.{step_by_units, stepped}
use Rattle.tt_rows.specs.declared.unit.RowUnit.{RowUnit}

-- the step of a glyph with its kerning, by glyph data that are open
abbrev pub step_in : Finder → ℕ → ℕ → ℤ → ℕ
step_in f ppem =
    step_by_units f.face.metrics ppem (λ g. or_zero (glyph_units f.face.instance f.face.metrics f.tables g))

-- the advances of some glyphs are found, or the first fault
abbrev pub tested_in : Finder → List ℕ → Result (Unit {0}) Fault
tested_in f gs = all_found (glyph_units f.face.instance f.face.metrics f.tables) gs

-- some glyphs with their steps, or the first fault
abbrev pub found_line : Finder → ℕ → List ℕ → Result (List (ℕ × ℕ)) Fault
found_line f ppem gs = tested_in f gs >>= λ u. Ok (stepped f.face.metrics (step_in f ppem) gs)

-- some units
abbrev pub found_row : Finder → ℕ → List RowUnit → Result (List RowUnit) Fault
found_row f ppem us = tested_in f (rows.unit_glyphs us) >>= λ u. Ok (rows.stepped_units f.face.metrics (step_in f ppem) us)

-- the same of lines, by a face
abbrev pub found_lines : Face → ℕ → List (List (ℕ × ℕ)) → Result (List (List (ℕ × ℕ))) Fault
found_lines face ppem lines =
    advances_tested face (glyphs_in lines) >>= λ u. Ok (with_steps face.metrics (advance_step face ppem) lines)

-- of the lines of a text
abbrev pub found_text : Face → ℕ → List ℕ → Result (List (List (ℕ × ℕ))) Fault
found_text face ppem text =
    advances_tested face (label_glyphs face.cmap text) >>= λ u.
    Ok (stepped_lines face.metrics (advance_step face ppem) face.cmap text)

-- of lines of units
abbrev pub found_rows : Face → ℕ → List (List RowUnit) → Result (List (List RowUnit)) Fault
found_rows face ppem lines =
    advances_tested face (rows.all_glyphs lines) >>= λ u.
    Ok (rows.stepped_lines face.metrics (advance_step face ppem) lines)
