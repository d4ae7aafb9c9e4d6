-- The picture of a line of text: each glyph's outline moved to its pen, blackened by the scan converter's rules
-- (OpenType, "TrueType Fundamentals"). Margins and limits are profile. With best a line is laid out by the steps of its
-- glyphs, which are made first. With any other fit it is laid out by advances, which the glyphs' own data give at an
-- instance without HVAR. Kerning counts in both.
use Rattle.std.specs.Prelude.{ℕ, ℤ, if◌then◌else◌, List, map, Option, Result, Ok}
use Rattle.tt_face.specs.declared.rules.Opening.{Opening}
use Rattle.tt_core.specs.declared.fault.JobFault.{JobFault}
use Rattle.tt_core.specs.Faults.{Fault}
use Rattle.tt_core.specs.Outcomes.{◌>>=◌, each}
use Rattle.tt_fit.specs.Fitting.{Fitter}
use Rattle.tt_fit.specs.Preparation.{fitter_of}
use Rattle.tt_fit.specs.declared.programs.Fit.{Fit}
use Rattle.tt_fit.specs.outline.Outline.{Outline}
use Rattle.tt_advances.specs.Found.{advances_tested}
use Rattle.tt_advances.specs.Lines.{advance_steps}
use Rattle.tt_line.specs.Layout.{Placement, laid_at, text_glyphs}
use Rattle.tt_line.specs.Steps.{stepped}
use Rattle.tt_metrics.specs.Metrics.{Metrics}
use Rattle.tt_scan_edges.specs.declared.edge.Frame.{Frame}
use Rattle.tt_strike.specs.Job.{Job, by_face, tested}
use Rattle.tt_strike.specs.Refusals.{Refused, as_font, as_job}
use Rattle.tt_picture.specs.Distinct.{distinct}
use Rattle.tt_picture.specs.Pictures.{Image, picture}
use Rattle.tt_picture.specs.Pixels.{Shape}
use Rattle.tt_picture.specs.Shapes.{crossings_in, glyph_shape}
use Rattle.tt_picture.specs.Steps.{glyph_advance, outlines_by, step_by}
use Rattle.tt_face.specs.Faces.{Face, glyphs_in}
use Rattle.tt_face.specs.Instance.{Asked}
use Rattle.tt_strike.specs.Programs.{programs_in}
use Rattle.tt_strike.specs.Work.{asked_tested, chords_in, edges_limited, lays_after_glyphs, line_fitter, work_left}

-- the fitter: the glyph data, the face's instance, and the state after the font's programs at the size
unfoldable pub setting : Face → ℕ → Fit → Result Fitter Fault
setting face ppem how = do
  tables ← glyphs_in face
  programs ← programs_in face how
  fitter_of face.metrics tables programs face.instance ppem how

abbrev pub setting_in : Face → Job → Result Fitter Fault
setting_in face a = setting face a.ppem a.fit

-- the frame of a line's picture
abbrev pub frame_of : Placement → ℕ → Frame
frame_of line margin = record { width = line.width; height = line.height; margin = margin; rise = line.rise }

-- the outlines of some glyphs, each glyph once, made in order
abbrev pub outlines_in : Fitter → List ℕ → Result (List Outline) Fault
outlines_in s gs = outlines_by (line_fitter s gs) (distinct gs)

-- the distance of the ends of a glyph's advance, by the fitter of some glyphs, in 26.6 pixels
abbrev pub advance_with : Fitter → List ℕ → ℕ → ℤ
advance_with s gs g = glyph_advance (line_fitter s gs g) g

-- some glyphs with their steps, which have their kerning
abbrev pub made_line : Metrics → ℕ → Fitter → List ℕ → List (ℕ × ℕ)
made_line m ppem s gs = stepped m (step_by m ppem (advance_with s gs)) gs

-- the step of each of some glyphs
abbrev pub steps_in : Metrics → ℕ → Fitter → List ℕ → List ℕ
steps_in m ppem s gs = map (λ g. g.1) (made_line m ppem s gs)

-- the glyphs of a laid-out line, made in order
abbrev pub shapes_in : Fitter → Placement → Result (List Shape) Fault
shapes_in s line = each (glyph_shape (line_fitter s (map (λ g. g.0) line.glyphs))) line.glyphs

-- a line's glyphs have few enough points and deltas for the job
abbrev pub points_tested : Fitter → Job → Placement → Result (Unit {0}) JobFault
points_tested s a line = asked_tested a.fit s (map (λ g. g.0) line.glyphs)

-- the outlines of some glyphs, once their points and deltas are tested, or the first refusal
abbrev pub outlines_tested : Fitter → Fit → List ℕ → Result (List Outline) Refused
outlines_tested s how gs = as_job (asked_tested how s gs) >>= λ u. as_font (outlines_in s gs)

-- a line's glyphs have few enough chords, and then few enough crossings, in its picture and outside, for the work that
-- remains
abbrev pub edges_tested : Fitter → Job → Placement → List Shape → Result (Unit {0}) JobFault
edges_tested s a line glyphs =
    let gs = map (λ g. g.0) line.glyphs in
    edges_limited a.fit (work_left s gs) (chords_in s gs) (crossings_in glyphs)

-- the glyphs that are drawn for a job, or its first refusal
abbrev pub line_shapes : Fitter → Job → Placement → Result (List Shape) Refused
line_shapes s a line =
    as_job (points_tested s a line) >>= λ u.
    as_font (shapes_in s line) >>= λ glyphs.
    as_job (edges_tested s a line glyphs) >>= λ u.
    Ok glyphs

-- the picture of a laid-out line
unfoldable pub drawn : Face → Job → Placement → Result Image Refused
drawn face a line =
    as_font (setting_in face a) >>= λ s.
    line_shapes s a line >>= λ glyphs.
    Ok (picture (frame_of line a.margin) glyphs)

-- a text laid out by the steps of its glyphs, which are made first, or the first refusal
unfoldable pub placed_by_steps : Face → Job → Result Placement Refused
placed_by_steps face a =
    let gs = text_glyphs face.cmap a.text in
    as_font (setting_in face a) >>= λ s.
    outlines_tested s a.fit gs >>= λ outlines.
    as_job (laid_at face.metrics a.ppem a.margin gs (steps_in face.metrics a.ppem s gs))

-- a text laid out by the advances of its glyphs, which are found first, or the first refusal
unfoldable pub placed_by_units : Face → Job → Result Placement Refused
placed_by_units face a =
    let gs = text_glyphs face.cmap a.text in
    as_font (advances_tested face gs) >>= λ u.
    as_job (laid_at face.metrics a.ppem a.margin gs (advance_steps face a.ppem gs))

-- a text laid out by a font's tables, or the first refusal
unfoldable pub text_placed : Face → Job → Result Placement Refused
text_placed face a = if lays_after_glyphs a.fit then placed_by_steps face a else placed_by_units face a

-- the same, once the job is tested
abbrev pub laid_out : Face → Job → Result Placement Refused
laid_out face a = as_job (tested a) >>= λ u. text_placed face a

-- the picture of a text by a font's tables, or the first refusal
unfoldable pub pictured_by : Face → Job → Result Image Refused
pictured_by face a = text_placed face a >>= λ line. drawn face a line

-- the picture of a job, which is tested first
unfoldable pub line_outcome : Face → Job → Result Image Refused
line_outcome face a = as_job (tested a) >>= λ u. pictured_by face a

-- the picture of a job by a font file as it is opened, at the requested instance
unfoldable pub pictured : Opening → Option Asked → Job → List ℕ → Result Image Refused
pictured r i a file = by_face pictured_by r i a file
