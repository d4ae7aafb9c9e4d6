-- No part of the standard: the measure of a line: its base line, its characters and their ink, in columns and rows of
-- the picture.
use Rattle.std.specs.Prelude.{◌≡◌, ℕ, true, false, ◌+◌, if◌then◌else◌, ℤ, pos, ◌+ℤ◌, List, [], ◌∷◌, map, Option, None, Result, Ok}
use Rattle.tt_core.specs.Outcomes.{◌>>=◌}
use Rattle.tt_fit.specs.Fitting.{Fitter}
use Rattle.tt_line.specs.Layout.{Placement}
use Rattle.tt_advances.specs.Found.{units_of}
use Rattle.tt_advances.specs.Lines.{advance_step}
use Rattle.tt_line.specs.Steps.{kerning_before}
use Rattle.tt_metrics.specs.Metrics.{Metrics}
use Rattle.tt_fit.specs.declared.programs.Fit.{Fit}
use Rattle.tt_picture.specs.Glyphs.{Glyph}
use Rattle.tt_scan_edges.specs.declared.edge.Frame.{Frame}
use Rattle.tt_bitmap.specs.declared.ink.LeastBox.{LeastBox}
use Rattle.tt_picture.specs.Ink.{all_joined, glyph_ink, ink_at}
use Rattle.tt_picture.specs.Steps.{kerned_step}
use Rattle.tt_strike.specs.Job.{Job}
use Rattle.tt_strike.specs.Picture.{advance_with, frame_of, laid_out, line_shapes, setting_in}
use Rattle.tt_strike.specs.Refusals.{Refused, as_font}
use Rattle.tt_face.specs.Faces.{Face, finds_advances}
use Rattle.tt_strike.specs.Work.{is_bounded, lays_after_glyphs, line_fitter}
use Rattle.tt_picture.specs.declared.ink_box.InkBox.{InkBox}
use Rattle.tt_strike.specs.declared.measuring.CharacterMeasure.{CharacterMeasure}
use Rattle.tt_strike.specs.declared.measuring.Measure as declared

-- the picture's size, the number of its rows above the base line, the box of all ink, and the characters in their order
pub record Measure : Type 0 where
  pub width : ℕ
  pub height : ℕ
  pub baseline : ℤ
  pub ink : Option InkBox
  pub characters : List CharacterMeasure

abbrev pub measure_view : declared.Measure → Measure
measure_view m = record {
  width = m.width;
  height = m.height;
  baseline = m.baseline;
  ink = m.ink;
  characters = m.characters.items;
}

-- a glyph at its pen with its step, by the ink of each glyph at pen 0
abbrev pub character_at : Frame → (ℕ → Option LeastBox) → ℕ × ℕ → ℕ → CharacterMeasure
character_at f inked g step = record {
  glyph = g.0;
  pen = pos (g.1 + f.margin);
  advance = step;
  ink = ink_at f g.1 (inked g.0);
}

-- the characters of a line, by the step of a glyph with its kerning
abbrev pub characters_at : Metrics → (ℕ → ℤ → ℕ) → Frame → (ℕ → Option LeastBox) → List (ℕ × ℕ) → List CharacterMeasure
characters_at m step f inked [] = []
characters_at m step f inked (g ∷ gs) =
    character_at f inked g (step g.0 (kerning_before m g.0 (map (λ h. h.0) gs))) ∷ characters_at m step f inked gs

-- the box of the ink of some characters
abbrev pub ink_of : List CharacterMeasure → Option InkBox
ink_of characters = all_joined None (map (λ c. c.ink) characters)

-- the least box of the ink of some glyphs at their pens in a picture, by the ink of each at pen 0
abbrev pub box_in : (ℕ → Option LeastBox) → Frame → List (ℕ × ℕ) → Option InkBox
box_in inked f gs = all_joined None (map (λ g. ink_at f g.1 (inked g.0)) gs)

-- the measure of a laid-out line, by the step and the ink of each glyph
abbrev pub measure_by : Metrics → (ℕ → ℤ → ℕ) → ℕ → (ℕ → Option LeastBox) → Placement → Measure
measure_by m step margin inked line =
    let f = frame_of line margin in
    let characters = characters_at m step f inked line.glyphs in
    record {
      width = line.width;
      height = line.height;
      baseline = f.rise +ℤ pos f.margin;
      ink = ink_of characters;
      characters = characters;
    }

-- the ink of each glyph of a line, by its fitter
abbrev pub line_ink : Fitter → Placement → ℕ → Option LeastBox
line_ink s line g = glyph_ink (line_fitter s (map (λ g. g.0) line.glyphs) g) g

-- the step of each glyph of a line with its kerning: by its own advance, by its fitter, or by that of the face
abbrev pub line_step : Face → Job → Fitter → Placement → ℕ → ℤ → ℕ
line_step face a s line g k =
    if lays_after_glyphs a.fit then kerned_step face.metrics a.ppem (advance_with s (map (λ g. g.0) line.glyphs) g) k
    else advance_step face a.ppem g k

-- the step of a made glyph with its kerning
abbrev pub made_step : Face → ℕ → Fit → Glyph → ℤ → ℕ
made_step face ppem how g k = if lays_after_glyphs how then kerned_step face.metrics ppem g.advance_left k
    else advance_step face ppem g.number k

-- where lines are laid out by the data of glyphs: these are the advances of some glyphs in font units
abbrev pub HasUnits : Face → Fit → List ℕ → List ℕ → Type 0
HasUnits face how gs units = is_bounded how ≡ false → finds_advances face ≡ true → units ≡ map (units_of face) gs

-- the measure of a laid-out line; it is refused exactly where its picture is
unfoldable pub measured_line : Face → Job → Placement → Result Measure Refused
measured_line face a line =
    as_font (setting_in face a) >>= λ s.
    line_shapes s a line >>= λ glyphs.
    Ok (measure_by face.metrics (line_step face a s line) a.margin (line_ink s line) line)

-- the measure of a text by a font's tables, or the first refusal
unfoldable pub measured : Face → Job → Result Measure Refused
measured face a = laid_out face a >>= λ line. measured_line face a line
