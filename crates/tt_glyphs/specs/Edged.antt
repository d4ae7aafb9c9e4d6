-- No part of the standard: the edges of an outline at pen 0.
use Rattle.std.specs.Prelude.{◌≡◌, ℕ, ◌+◌, ◌^◌, ◌≤◌, Bool, ℤ, Option, length, All, IfSome}
use Rattle.tt_fit.specs.Fitting.{Fitter, fitted_outline}
use Rattle.tt_fit.specs.outline.Steps.{advance_left, step_of}
use Rattle.tt_picture.specs.Ink.{ink_by}
use Rattle.tt_glyph_pixels.specs.Shown.{AreClosed, shows}
use Rattle.tt_picture.specs.Shapes.{contours_of, edges_at, filling_crossings}
use Rattle.tt_picture.specs.Steps.{chords_of}
use Rattle.tt_scan.specs.Contours.{AreEnds, IsClosed, contours_at}
use Rattle.tt_scan_dropouts.specs.Counted.{edges_counted}
use Rattle.tt_scan_gaps.specs.Boxes.{IsBoxOf}
use Rattle.tt_scan_ink.specs.Least.{IsNear}
use Rattle.tt_bitmap.specs.declared.ink.LeastBox.{LeastBox}
use Rattle.tt_glyphs.specs.declared.edged.EdgedOutline.{EdgedOutline}
use Rattle.tt_glyphs.specs.declared.ruled.TriedBody.TheVariants as body
use Rattle.tt_glyphs.specs.Ruled.{RuledOutline}
use Rattle.tt_glyphs.specs.Tried.{ruled_by}

-- the pixels that edges and their dropouts blacken, and the box of these pixels
abbrev pub inked_by : EdgedOutline → ℤ → ℤ → Bool
inked_by e c j = shows e.tape.edges (contours_at e.tape.edges e.ends.items) e.filled c j

abbrev pub ink_of : EdgedOutline → Option LeastBox
ink_of e = ink_by e.tape.edges (contours_at e.tape.edges e.ends.items) e.filled

-- the edges are few and lie in their box, which is that of the dropout rules. Their contours are closed and end among
-- them. The box of their ink is near
pub record EdgedFits (e : EdgedOutline) : Type 0 where
  pub few : length e.tape.edges ≤ 2 ^ 19
  pub held : IsBoxOf e.extents e.tape.edges
  pub same : IfSome e.filled (λ rules. rules.extents ≡ e.extents)
  pub boxed : IfSome e.filled (λ rules. IsBoxOf rules.extents e.tape.edges)
  pub ends : IfSome e.filled (λ rules. AreEnds (length e.tape.edges) e.ends.items)
  pub closed : AreClosed e.tape.edges
  pub round : IfSome e.filled (λ rules. All IsClosed (contours_at e.tape.edges e.ends.items))
  pub near : IfSome (ink_of e) IsNear

-- the same glyph, whose rows may be cut
pub record IsSameGlyph (e f : EdgedOutline) : Type 0 where
  pub same : f ≡ record e { tape = f.tape }
  pub edges : f.tape.edges ≡ e.tape.edges

-- the edges of this outline
pub record IsEdged (r : RuledOutline) (e : EdgedOutline) : Type 0 where
  pub edges : e.tape.edges ≡ edges_at r.rule 0 r.outline
  pub contours : IfSome r.filled (λ rules. contours_at e.tape.edges e.ends.items ≡ contours_of r.rule 0 r.outline)
  pub filled : e.filled ≡ r.filled
  pub chords : e.chords ≡ chords_of r.rule r.outline
  pub step : e.step ≡ step_of r.outline
  pub advance : e.advance_left ≡ advance_left r.outline
  pub unfitted : e.unfitted ≡ r.unfitted

-- the crossings of an outline's edges in a picture that holds them all, and those of the search for its dropouts
abbrev pub edged_crossings : EdgedOutline → ℕ
edged_crossings e = edges_counted e.tape.edges + filling_crossings e.filled e.tape.edges

abbrev pub outline_crossings : RuledOutline → ℕ
outline_crossings r =
    edges_counted (edges_at r.rule 0 r.outline) + filling_crossings r.filled (edges_at r.rule 0 r.outline)

-- the outline of a glyph by its fitter, with its rules, and the edges of that outline
abbrev pub IsRuledBy : Fitter → ℕ → RuledOutline → Type 0
IsRuledBy s g r = ruled_by s g (fitted_outline s g) ≡ body.Ruled r

abbrev pub IsEdgedBy : Fitter → ℕ → EdgedOutline → Type 0
IsEdgedBy s g e = (r : RuledOutline) × IsRuledBy s g r × IsEdged r e
