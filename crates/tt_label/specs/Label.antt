-- No part of the standard: the picture of a label, which is a text of several lines (profile). The lines lie in one
-- picture, and their glyphs are made one after the other, as those of one line. The picture is enlarged so that the ink
-- of no line is cut.
use Rattle.std.specs.Prelude.{ℕ, ℤ, Bool, false, ◌||◌, if◌then◌else◌, pos, List, [], ◌∷◌, map, Option, None, Result, Ok}
use Rattle.std.specs.List.{flat_map}
use Rattle.tt_cmap.specs.Maps.{CharacterMap}
use Rattle.tt_core.specs.declared.fault.JobFault.{JobFault}
use Rattle.tt_core.specs.Outcomes.{◌>>=◌, each}
use Rattle.tt_face.specs.Faces.{Face}
use Rattle.tt_fit.specs.Fitting.{Fitter}
use Rattle.tt_line.specs.declared.align.Align.{Align}
use Rattle.tt_line.specs.Labels.{label_lines, label_placement}
use Rattle.tt_line.specs.Layout.{Placement, text_glyphs}
use Rattle.tt_line.specs.Steps.{stepped}
use Rattle.tt_metrics.specs.Metrics.{Metrics}
use Rattle.tt_picture.specs.declared.ink_box.InkBox.{InkBox}
use Rattle.tt_picture.specs.declared.report.Unfitted.{Unfitted}
use Rattle.tt_picture.specs.Ink.{all_joined}
use Rattle.tt_picture.specs.Pictures.{Image, image}
use Rattle.tt_picture.specs.Lines.{is_shown}
use Rattle.tt_picture.specs.Shapes.{glyph_shape}
use Rattle.tt_picture.specs.Steps.{step_by}
use Rattle.tt_advances.specs.Found.{advances_tested}
use Rattle.tt_advances.specs.Lines.{advance_step}
use Rattle.tt_bitmap.specs.declared.ink.LeastBox.{LeastBox}
use Rattle.tt_strike.specs.Costs.{line_cost}
use Rattle.tt_strike.specs.Grown.{grown}
use Rattle.tt_strike.specs.Job.{Job, tested}
use Rattle.tt_strike.specs.Measures.{box_in, line_ink}
use Rattle.tt_strike.specs.Picture.{advance_with, frame_of, line_shapes, outlines_tested, setting_in}
use Rattle.tt_strike.specs.Refusals.{Refused, as_font, as_job}
use Rattle.tt_strike.specs.Report.{line_report}
use Rattle.tt_strike.specs.Work.{lays_after_glyphs, line_fitter}

-- the glyphs of a text's units, line by line
abbrev pub label_glyphs : CharacterMap → List ℕ → List ℕ
label_glyphs cmap text = flat_map (text_glyphs cmap) (label_lines text)

-- the lines of a text, each its glyphs with their steps; pairs are kerned within a line
abbrev pub stepped_lines : Metrics → (ℕ → ℤ → ℕ) → CharacterMap → List ℕ → List (List (ℕ × ℕ))
stepped_lines m step cmap text = map (λ line. stepped m step (text_glyphs cmap line)) (label_lines text)

-- the glyphs of all lines as one line, in the picture of the first
abbrev pub joint : List Placement → Placement
joint [] = record { width = 1; height = 1; rise = pos 0; glyphs = [] }
joint (line ∷ lines) = record line { glyphs = flat_map (λ l. l.glyphs) (line ∷ lines) }

-- the numbers of all glyphs of some lines
abbrev pub joint_numbers : List Placement → List ℕ
joint_numbers lines = map (λ g. g.0) (joint lines).glyphs

-- the lines of a text, laid out by the advances of their glyphs, which are found first
abbrev pub label_by_advances : Face → Job → Align → Result (List Placement) Refused
label_by_advances face a how =
    as_font (advances_tested face (label_glyphs face.cmap a.text)) >>= λ u.
    as_job (label_placement face.metrics a.ppem a.margin how
    (stepped_lines face.metrics (advance_step face a.ppem) face.cmap a.text))

-- the same by the steps of their glyphs, which are made first
abbrev pub label_by_steps : Face → Job → Align → Result (List Placement) Refused
label_by_steps face a how =
    let gs = label_glyphs face.cmap a.text in
    as_font (setting_in face a) >>= λ s.
    outlines_tested s a.fit gs >>= λ outlines.
    as_job (label_placement face.metrics a.ppem a.margin how
    (stepped_lines face.metrics (step_by face.metrics a.ppem (advance_with s gs)) face.cmap a.text))

-- the lines of a job's text, laid out by a font's tables, or the first refusal
unfoldable pub label_placed : Face → Job → Align → Result (List Placement) Refused
label_placed face a how = as_job (tested a) >>= λ u.
    if lays_after_glyphs a.fit then label_by_steps face a how else label_by_advances face a how

-- the least box of the ink of a line's glyphs, by the ink of each at pen 0
abbrev pub line_box : (ℕ → Option LeastBox) → ℕ → Placement → Option InkBox
line_box inked margin line = box_in inked (frame_of line margin) line.glyphs

-- the least box of the ink of all lines
abbrev pub label_ink : (ℕ → Option LeastBox) → ℕ → List Placement → Option InkBox
label_ink inked margin lines = all_joined None (map (line_box inked margin) lines)

-- lines in whose picture this ink is not cut. All have one width and one height, so the same columns and rows are added
-- to each
abbrev pub grown_lines : List Placement → Option InkBox → Result (List Placement) JobFault
grown_lines lines ink = each (λ line. grown line ink) lines

-- lines that are laid out, in whose picture no ink is cut
unfoldable pub label_grown : Face → Job → List Placement → Result (List Placement) Refused
label_grown face a lines =
    as_font (setting_in face a) >>= λ s.
    line_shapes s a (joint lines) >>= λ glyphs.
    as_job (grown_lines lines (label_ink (line_ink s (joint lines)) a.margin lines))

-- the picture of a line has column c of row r, by the fitter of each glyph
abbrev pub line_shows : (ℕ → Fitter) → ℕ → Placement → ℕ → ℕ → Bool
line_shows maker margin line c r = is_shown (frame_of line margin) (each (glyph_shape maker) line.glyphs) c r

-- the picture of one of some lines has it
abbrev pub some_line_shows : (ℕ → Fitter) → ℕ → List Placement → ℕ → ℕ → Bool
some_line_shows maker margin [] c r = false
some_line_shows maker margin (line ∷ lines) c r =
    line_shows maker margin line c r || some_line_shows maker margin lines c r

-- the picture of some lines: their pictures, laid over each other
unfoldable pub label_drawn : Face → Job → List Placement → Result Image Refused
label_drawn face a lines =
    as_font (setting_in face a) >>= λ s.
    line_shapes s a (joint lines) >>= λ glyphs.
    Ok (image (frame_of (joint lines) a.margin) (some_line_shows (line_fitter s (joint_numbers lines)) a.margin lines))

-- the picture of a label by a font's tables, or the first refusal
unfoldable pub label_outcome : Face → Job → Align → Result Image Refused
label_outcome face a how =
    label_placed face a how >>= λ lines.
    label_grown face a lines >>= λ larger.
    label_drawn face a larger

-- the unfitted glyphs of a label, each once, in order of first appearance
unfoldable pub label_report : Face → Job → Align → Result (List Unfitted) Refused
label_report face a how = label_placed face a how >>= λ lines. line_report face a (joint lines)

-- what a label takes of the budget of a call of many lines: as much as all its glyphs on one line
unfoldable pub label_cost : Face → Job → Align → Result ℕ Refused
label_cost face a how = label_placed face a how >>= λ lines. line_cost face a (joint lines)
