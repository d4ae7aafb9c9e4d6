-- Laws of the definitions of layouts. Their sums, and what they are read from.
use Rattle.std.specs.Prelude.{◌≡◌, ℕ, ◌+◌, ◌*◌, ◌<◌, false, pos, ◌+ℤ◌, List, get_or, length, map, sum, None, Ok}
use Rattle.tt_face.specs.Faces.{Face, finds_advances}
use Rattle.tt_line.specs.Layout.{pen_at}
use Rattle.tt_strike.specs.declared.layouts.Layout.{Layout}
use Rattle.tt_strike.specs.declared.layouts.Pen.{Pen}
use Rattle.tt_strike.specs.declared.measuring.CharacterMeasure.{CharacterMeasure}
use Rattle.tt_strike.specs.Job.{Job}
use Rattle.tt_strike.specs.Layouts.{layout_outcome, pens_outcome}
use Rattle.tt_strike.specs.Measures.{Measure, measured}
use Rattle.tt_strike_laws.specs.StepLaws.{character_in}
use Rattle.tt_strike.specs.Work.{lays_after_glyphs}

-- without best, whether glyphs or programs have defects does not matter: but for an instance without HVAR the layout
-- depends on the metrics and the map
abbrev pub NoGlyphIsRead : Type 0
NoGlyphIsRead = (face other : Face) (a : Job) → lays_after_glyphs a.fit ≡ false → finds_advances face ≡ false
    → finds_advances other ≡ false → other.metrics ≡ face.metrics → other.cmap ≡ face.cmap
    → (layout_outcome other a ≡ layout_outcome face a) × (pens_outcome other a ≡ pens_outcome face a)

-- the columns to the next pen, in order
abbrev pub advances_in : List Pen → List ℕ
advances_in ps = map (λ (p : Pen). p.advance) ps

-- a pen by its number
abbrev pub pen_in : List Pen → ℕ → Pen
pen_in ps i = get_or ps i (record { unit = record { character = 0; selector = None }; glyph = 0; advance = 0; pen = 0 })

-- the advances lie between two margins, and each pen is the margin and the sum of the advances before
pub record AddUp (a : Job) (l : Layout) (ps : List Pen) : Type 0 where
  pub width : l.size.width ≡ 2 * a.margin + sum (advances_in ps)
  pub pens : (i : ℕ) → i < length ps → (pen_in ps i).pen ≡ a.margin + pen_at (advances_in ps) i
  pub height : pos l.size.height ≡ (l.size.rise +ℤ l.size.depth) +ℤ pos (2 * a.margin)
  pub baseline : l.baseline ≡ l.size.rise +ℤ pos a.margin

abbrev pub LayoutsAddUp : Type 0
LayoutsAddUp = (face : Face) (a : Job) (l : Layout) (ps : List Pen) → layout_outcome face a ≡ Ok l
    → pens_outcome face a ≡ Ok ps → AddUp a l ps

-- a pen tells what the measure of its character tells
pub record IsMeasuredPen (c : CharacterMeasure) (p : Pen) : Type 0 where
  pub glyph : p.glyph ≡ c.glyph
  pub pen : pos p.pen ≡ c.pen
  pub advance : p.advance ≡ c.advance

-- a layout and its pens tell what a measure tells, but for the ink
pub record IsMeasured (m : Measure) (l : Layout) (ps : List Pen) : Type 0 where
  pub width : l.size.width ≡ m.width
  pub height : l.size.height ≡ m.height
  pub baseline : l.baseline ≡ m.baseline
  pub count : length ps ≡ length m.characters
  pub pens : (i : ℕ) → i < length ps → IsMeasuredPen (character_in m i) (pen_in ps i)

-- a text that is measured has the same layout
abbrev pub LaidOutAsMeasured : Type 0
LaidOutAsMeasured = (face : Face) (a : Job) (m : Measure) → measured face a ≡ Ok m
    → (l : Layout) × (ps : List Pen) × (layout_outcome face a ≡ Ok l) × (pens_outcome face a ≡ Ok ps) × IsMeasured m l ps
