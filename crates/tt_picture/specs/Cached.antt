-- No part of the standard: glyphs cached from line to line, in a cache that may be absent. Where a glyph's cost is paid,
-- the glyph equals the one made anew.
use Rattle.std.specs.Prelude.{◌≡◌, ℕ, ◌+◌, Bool, true, false, ℤ, List, [], All, Option, None, Some, ⊤}
use Rattle.tt_fit.specs.Counting.{points_asked}
use Rattle.tt_fit.specs.DeltaCounting.{deltas_asked}
use Rattle.tt_fit.specs.Dropouts.{dropouts_of}
use Rattle.tt_fit.specs.Fitting.{Fitter}
use Rattle.tt_fit.specs.GlyphCost.{IsMadeFor, without_work}
use Rattle.tt_fit.specs.outline.Outline.{Outline}
use Rattle.tt_fit.specs.outline.Steps.{advance_left}
use Rattle.tt_bitmap.specs.Bitmaps.{is_black}
use Rattle.tt_glyph_pixels.specs.Shown.{shows}
use Rattle.tt_picture.specs.Ink.{ink_by}
use Rattle.tt_picture.specs.Shapes.{chords_with, contours_of, edges_at, extents_of, filling_crossings, rules_for}
use Rattle.tt_picture.specs.Steps.{chords_of}
use Rattle.tt_scan_edges.specs.declared.edge.Edge.{Edge}
use Rattle.tt_scan_dropouts.specs.Counted.{edges_counted}
use Rattle.tt_scan_dropouts.specs.declared.boxed.BoxedRules.{BoxedRules}
use Rattle.tt_strike_kept.specs.Glyph.{KeptGlyph}
use Rattle.tt_strike_kept.specs.Kept.{Kept}

-- a cached glyph has the black pixels of some edges and the dropouts of some contours by these rules, with their box, and
-- the crossings of the edges
pub record IsCutOf (es : List Edge) (contours : List (List Edge)) (filled : Option BoxedRules) (k : KeptGlyph) : Type 0 where
  pub pixels : (c j : ℤ) → is_black k.bitmap c j ≡ shows es contours filled c j
  pub ink : k.ink ≡ ink_by es contours filled
  pub crossings : k.crossings ≡ edges_counted es + filling_crossings filled es

-- it has those of an outline at pen 0, by these rules, and the outline's advance and chords
pub record IsOfOutline (s : Fitter) (filled : Option BoxedRules) (o : Outline) (k : KeptGlyph) : Type 0 where
  pub cut : IsCutOf (edges_at (chords_with s) 0 o) (contours_of (chords_with s) 0 o) filled k
  pub advance : k.advance_left ≡ advance_left o
  pub chords : k.chords ≡ chords_of (chords_with s) o

-- the cached glyph of this number is made so wherever its cost is left of a job's work, and the rest is left then; its
-- points are counted, and its deltas at the fitter's instance
pub record IsCached (s : Fitter) (number : ℕ) (k : KeptGlyph) : Type 0 where
  pub shape : Outline
  pub made : IsMadeFor s number k.counts.cost shape k.unfitted
  pub shown : IsOfOutline s (rules_for (extents_of shape) (dropouts_of s k.unfitted shape)) shape k
  pub points : k.counts.points ≡ points_asked s.tables s.levels number
  pub deltas : k.counts.deltas ≡ deltas_asked s.instance s.tables s.levels number

-- all cached glyphs are
abbrev pub AreCachedFor : Fitter → List (ℕ × KeptGlyph) → Type 0
AreCachedFor s entries = All (λ e. IsCached s e.0 e.1) entries

-- whether there is a cache; its glyphs with their numbers, the newest first; and its limit in bytes
abbrev pub is_there : Option Kept → Bool
is_there None = false
is_there (Some k) = true

abbrev pub entries_of : Option Kept → List (ℕ × KeptGlyph)
entries_of None = []
entries_of (Some k) = k.entries

abbrev pub limit_of : Option Kept → Option ℕ
limit_of None = None
limit_of (Some k) = Some k.most

-- a fitter may use the cache, if there is one
abbrev pub IsCacheFor : Fitter → Option Kept → Type 0
IsCacheFor s None = ⊤
IsCacheFor s (Some k) = AreCachedFor s k.entries

-- The cache of a fitter is that of every fitter that differs in its remaining work alone: of the fitters before, within
-- and after a line.
abbrev pub CachedStays : Type 0
CachedStays = (s t : Fitter) (c : Option Kept) → without_work t ≡ without_work s → IsCacheFor s c → IsCacheFor t c
