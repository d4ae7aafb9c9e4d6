-- No part of the standard: the glyphs of a line that are fitted, before their edges are made: each by its outline, or from
-- the cache.
use Rattle.std.specs.Prelude.{◌≡◌, ℕ, ℤ, ◌+◌, All, IfSome, List, map, Option, Ok}
use Rattle.std.specs.List.{sum_by}
use Rattle.tt_core.specs.Faults.{Fault}
use Rattle.tt_fit.specs.Counting.{points_asked}
use Rattle.tt_fit.specs.DeltaCounting.{deltas_asked}
use Rattle.tt_fit.specs.Fitting.{Fitter, fitted_outline, unfitted_fault}
use Rattle.tt_fit.specs.GlyphCost.{IsMadeFor}
use Rattle.tt_fit.specs.outline.Outline.{Outline}
use Rattle.tt_fit.specs.outline.Steps.{advance_left}
use Rattle.tt_arc.specs.declared.rule.ChordRule.{ChordRule}
use Rattle.tt_scan_dropouts.specs.Counted.{edges_counted}
use Rattle.tt_scan_dropouts.specs.declared.boxed.BoxedRules.{BoxedRules}
use Rattle.tt_scan_gaps.specs.Boxes.{ExtentsFit}
use Rattle.tt_picture.specs.Cached.{IsOfOutline}
use Rattle.tt_picture.specs.Glyphs.{Glyph, crossings_cut}
use Rattle.tt_picture.specs.Shapes.{chords_with, edges_at, filled_by, filling_crossings}
use Rattle.tt_picture.specs.Steps.{chords_of}
use Rattle.tt_strike_kept.specs.Glyph.{KeptGlyph}
use Rattle.tt_strike_kept.specs.declared.glyph.KeptCounts.{KeptCounts}

-- an outline, its chord rule, its dropout rules at pen 0, what it counts if it is to be cached, and the fault that makes
-- it unfitted
pub record MadeOutline : Type 0 where
  pub outline : Outline
  pub rule : ChordRule
  pub filled : Option BoxedRules
  pub counts : Option KeptCounts
  pub unfitted : Option Fault

-- the part of a fitted glyph that gives its edges or its pixels
pub data FittedBody : Type 0 where
  outlined : MadeOutline → FittedBody
  kept : KeptGlyph → FittedBody

-- a glyph by its number in the font
pub record FittedGlyph : Type 0 where
  pub number : ℕ
  pub body : FittedBody

-- the distance of the advance's two ends, in 26.6 pixels
abbrev pub body_advance : FittedBody → ℤ
body_advance (outlined m) = advance_left m.outline
body_advance (kept k) = k.advance_left

abbrev pub body_chords : FittedBody → ℕ
body_chords (outlined m) = chords_of m.rule m.outline
body_chords (kept k) = k.chords

-- the crossings of a glyph at one pen, and of some; where dropouts are filled, the search for them counts too
abbrev pub outline_crossings : MadeOutline → ℕ
outline_crossings m =
    edges_counted (edges_at m.rule 0 m.outline) + filling_crossings m.filled (edges_at m.rule 0 m.outline)

abbrev pub made_crossings : FittedBody → ℕ
made_crossings (outlined m) = outline_crossings m
made_crossings (kept k) = k.crossings

abbrev pub fitted_crossings : List FittedGlyph → ℕ
fitted_crossings gs = sum_by (λ g. made_crossings g.body) gs

-- an outline is that of a glyph, and what it counts is what the glyph counts in the cache
pub record IsMadeOutline (s : Fitter) (number : ℕ) (o : Outline) (m : MadeOutline) : Type 0 where
  pub outline : m.outline ≡ o
  pub rule : m.rule ≡ chords_with s
  pub filled : m.filled ≡ filled_by s number o
  pub unfitted : m.unfitted ≡ unfitted_fault s number
  pub fits : IfSome m.filled (λ rules. ExtentsFit rules.extents)
  pub points : IfSome m.counts (λ n. n.points ≡ points_asked s.tables s.levels number)
  pub deltas : IfSome m.counts (λ n. n.deltas ≡ deltas_asked s.instance s.tables s.levels number)
  pub made : IfSome m.counts (λ n. IsMadeFor s number n.cost o m.unfitted)

-- a body gives the edges or the pixels of a glyph's outline
abbrev pub IsFittedBody : Fitter → ℕ → Outline → FittedBody → Type 0
IsFittedBody s number o (outlined m) = IsMadeOutline s number o m
IsFittedBody s number o (kept k) = (k.unfitted ≡ unfitted_fault s number) × IsOfOutline s (filled_by s number o) o k

-- a glyph has the outline that its fitter makes
pub record IsFitted (s : Fitter) (g : FittedGlyph) : Type 0 where
  pub shape : Outline
  pub outline : fitted_outline s g.number ≡ Ok shape
  pub body : IsFittedBody s g.number shape g.body

-- the numbers and the chords of some glyphs, in their order
abbrev pub fitted_numbers : List FittedGlyph → List ℕ
fitted_numbers gs = map (λ g. g.number) gs

abbrev pub fitted_chords : List FittedGlyph → ℕ
fitted_chords gs = sum_by (λ g. body_chords g.body) gs

-- each glyph is made by its fitter
abbrev pub AreFitted : (ℕ → Fitter) → List FittedGlyph → Type 0
AreFitted maker gs = All (λ g. IsFitted (maker g.number) g) gs

-- this is the distance of the ends of each glyph's advance
abbrev pub AreAdvances : (ℕ → ℤ) → List FittedGlyph → Type 0
AreAdvances advance gs = All (λ g. advance g.number ≡ body_advance g.body) gs

-- the crossings of a glyph that is cut when it is drawn; a glyph from the cache was cut before
abbrev pub newly_cut : FittedBody → Glyph → ℕ
newly_cut (outlined m) g = crossings_cut g.crossings g.body
newly_cut (kept k) g = 0
