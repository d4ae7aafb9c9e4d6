-- Glyphs that are made, and their pixels for the cache.
use Rattle.std.proofs.Common.{◌≡◌, ◌∙◌, ◌+◌, ◌^◌, ◌≤◌, ℕ, Bool, true, false, List, length, nat_le, Option, None, Some, Ok, ◌⊎◌, inl, inr, ap, refl, sym}
use Rattle.std.specs.Prelude.{All, IfSome, pos}
use Rattle.tt_core.specs.Faults.{Fault}
use Rattle.tt_arc.proofs.Closed.{all_closed}
use Rattle.tt_arc.specs.declared.rule.ChordRule.{ChordRule}
use Rattle.tt_fit.proofs.WorkApart.{own-work}
use Rattle.tt_fit.specs.Counting.{counted, points_asked}
use Rattle.tt_fit.specs.DeltaCounting.{deltas_asked}
use Rattle.tt_fit.specs.Dropouts.{dropouts_of}
use Rattle.tt_fit.specs.Fitting.{Fitter, fitted_outline, unfitted_fault, with_work}
use Rattle.tt_fit.specs.GlyphCost.{IsMade, IsMadeFor, all_used}
use Rattle.tt_fit.specs.Laws.{UnboundedStays}
use Rattle.tt_fit.specs.declared.dropouts.DropoutRules.{DropoutRules}
use Rattle.tt_fit.specs.outline.Outline.{Outline}
use Rattle.tt_fit.specs.outline.Steps.{advance_left}
use Rattle.tt_picture.specs.Cached.{IsCached, IsOfOutline}
use Rattle.tt_picture.specs.Cut.{IsKeptOf}
use Rattle.tt_picture.specs.Fitted.{kept, outlined, FittedGlyph, IsFitted, IsFittedBody, IsMadeOutline, MadeOutline}
use Rattle.tt_picture.specs.Glyphs.{CanBeCut, Glyph, GlyphBody, IsBodyOf, IsDrawn, LargeGlyph, large, small}
use Rattle.tt_picture.specs.Shapes.{chords_with, contours_of, edges_at, extents_of, filled_by, filling_crossings, offset_at, rules_for}
use Rattle.tt_picture.specs.Steps.{chords_of}
use Rattle.tt_picture.proofs.Inked.{body_as}
use Rattle.tt_picture.proofs.OutlineBox.{outline_boxed, rules_boxed}
use Rattle.tt_scan.specs.Contours.{AreEnds, IsClosed, contours_at}
use Rattle.tt_scan_edges.specs.declared.edge.Edge.{Edge}
use Rattle.tt_scan_dropouts.specs.Counted.{edges_counted}
use Rattle.tt_scan_dropouts.specs.declared.boxed.BoxedRules.{BoxedRules}
use Rattle.tt_scan_gaps.specs.Boxes.{ExtentsFit, IsBoxOf}
use Rattle.tt_strike_kept.specs.Glyph.{KeptGlyph}
use Rattle.tt_strike_kept.specs.declared.glyph.KeptCounts.{KeptCounts}

-- a glyph has the pixels and the facts of an outline
pub record IsGlyphOf (s : Fitter) (n : ℕ) (o : Outline) (g : Glyph) : Type 0 where
  pub body : IsBodyOf (edges_at (chords_with s) 0 o) (contours_of (chords_with s) 0 o) (filled_by s n o) g.body
  pub crossings : g.crossings ≡ edges_counted (edges_at (chords_with s) 0 o)
      + filling_crossings (filled_by s n o) (edges_at (chords_with s) 0 o)
  pub advance : g.advance_left ≡ advance_left o
  pub chords : g.chords ≡ chords_of (chords_with s) o
  pub unfitted : g.unfitted ≡ unfitted_fault s n

-- it is that of its fitter's outline
pub drawn_of_outline : (s : Fitter) (n : ℕ) (o : Outline) (g : Glyph) → fitted_outline s n ≡ Ok o → g.number ≡ n
    → IsGlyphOf s n o g → IsDrawn s g
drawn_of_outline s n o g outline number is = record {
  shape = o;
  outline = rw number outline;
  body = rw number is.body;
  crossings = rw number is.crossings;
  advance = is.advance;
  chords = is.chords;
  unfitted = rw number is.unfitted;
}

-- a glyph that is made
pub made_glyph : (s : Fitter) (n : ℕ) (o : Outline) (m : MadeOutline) (g : Glyph) (es : List Edge) (contours : List (List Edge))
    → IsMadeOutline s n o m → es ≡ edges_at m.rule 0 m.outline
    → IfSome m.filled (λ rules. contours ≡ contours_of m.rule 0 m.outline) → IsBodyOf es contours m.filled g.body
    → g.crossings ≡ edges_counted es + filling_crossings m.filled es → g.advance_left ≡ advance_left m.outline
    → g.chords ≡ chords_of m.rule m.outline → g.unfitted ≡ m.unfitted → IsGlyphOf s n o g
made_glyph s n o m g es contours made edges lines body crossings advance chords unfitted =
    let edged : es ≡ edges_at (chords_with s) 0 o = rw (made.rule, made.outline) at edges in
    let lined : IfSome m.filled (λ rules. contours ≡ contours_of (chords_with s) 0 o) = rw (made.rule, made.outline) at lines in
    record {
      body = body_as m.filled (filled_by s n o) es (edges_at (chords_with s) 0 o) contours (contours_of (chords_with s) 0 o)
          g.body made.filled edged lined body;
      crossings = rw (edged, made.filled) at crossings;
      advance = advance ∙ ap advance_left made.outline;
      chords = rw (made.rule, made.outline) at chords;
      unfitted = unfitted ∙ made.unfitted;
    }

-- a glyph that is fitted by its outline
pub made_of : (s : Fitter) (g : FittedGlyph) (n : ℕ) (m : MadeOutline) → g ≡ record { number = n; body = outlined m }
    → IsFitted s g → (o : Outline) × (fitted_outline s n ≡ Ok o) × IsMadeOutline s n o m
made_of s g n m same is =
    let own : IsFitted s (record { number = n; body = outlined m }) = rw same at is in
    (own.shape, own.outline, own.body)

-- it may be cached, where its counts are known
pub made_cached : (s : Fitter) (n : ℕ) (o : Outline) (m : MadeOutline) (g : Glyph) (k : KeptGlyph) → IsMadeOutline s n o m
    → IsGlyphOf s n o g → IsKeptOf g m.counts k → IsCached s n k
made_cached s n o m g k made is has =
    let points : k.counts.points ≡ points_asked s.tables s.levels n = rw has.counted at made.points in
    let deltas : k.counts.deltas ≡ deltas_asked s.instance s.tables s.levels n = rw has.counted at made.deltas in
    let paid : IsMadeFor s n k.counts.cost o m.unfitted = rw has.counted at made.made in
    let fault : k.unfitted ≡ unfitted_fault s n = has.unfitted ∙ is.unfitted in
    let reason : k.unfitted ≡ m.unfitted = fault ∙ sym made.unfitted in
    let rules : filled_by s n o ≡ rules_for (extents_of o) (dropouts_of s k.unfitted o) =
    ap (λ f. rules_for (extents_of o) (dropouts_of s f o)) (sym fault) in
    let body : IsBodyOf (edges_at (chords_with s) 0 o) (contours_of (chords_with s) 0 o) (filled_by s n o) (small k.bitmap k.ink) =
    rw has.body at is.body in
    let shown : IsOfOutline s (filled_by s n o) o k = record {
      cut = record { pixels = body.pixels; ink = body.ink; crossings = has.crossings ∙ is.crossings };
      advance = has.advance ∙ is.advance;
      chords = has.chords ∙ is.chords;
    } in
    record {
      shape = o;
      made = rw reason paid;
      shown = rw rules at shown;
      points = points;
      deltas = deltas;
    }

-- a glyph from the cache
pub cached_drawn : (s : Fitter) (n : ℕ) (k : KeptGlyph) (g : Glyph) → IsFitted s (record { number = n; body = kept k })
    → g ≡ record { number = n; advance_left = k.advance_left; chords = k.chords; crossings = k.crossings; body = small k.bitmap k.ink; unfitted = k.unfitted }
    → IsDrawn s g
cached_drawn s n k g fitted is =
    let of = fitted.body.1 in
    rw is (record {
      shape = fitted.shape;
      outline = fitted.outline;
      body = record { pixels = of.cut.pixels; ink = of.cut.ink };
      crossings = of.cut.crossings;
      advance = of.advance;
      chords = of.chords;
      unfitted = fitted.body.0;
    })

-- a cached glyph whose cost is paid

pub same_cost : (s : Fitter) (n a b : ℕ) (o : Outline) (reason : Option Fault) → a ≡ b → IsMadeFor s n b o reason
    → IsMadeFor s n a o reason
same_cost s n a b o reason same is = rw same is

pub paid_is_fitted : (s new : Fitter) (n : ℕ) (k : KeptGlyph) (is : IsCached s n k)
    → IsMade s n is.shape k.unfitted new → IsFittedBody s n is.shape (kept k)
paid_is_fitted s new n k is made =
    let rules : rules_for (extents_of is.shape) (dropouts_of s k.unfitted is.shape) ≡ filled_by s n is.shape =
    ap (λ f. rules_for (extents_of is.shape) (dropouts_of s f is.shape)) (sym made.unfitted) in
    (sym made.unfitted, rw rules at is.shown)

-- what a glyph counts

pub counted_is : (most n p : ℕ) (within : Bool) → nat_le n most ≡ within → counted most n ≡ Some p → p ≡ n
counted_is most n p true is some = let told : Some n ≡ Some p = rw is at some in cc
counted_is most n p false is some = let told : ◌≡◌ {A = Option ℕ} None (Some p) = rw is at some in absurd cc

none_used : (rest : Option ℕ) → all_used rest ≡ None → rest ≡ None
none_used None is = refl
none_used (Some n) is = absurd cc

-- where work is not bounded, a glyph takes nothing of it
pub made_for_nothing : UnboundedStays → (s : Fitter) (n : ℕ) (o : Outline) (reason : Option Fault) → s.work ≡ None
    → fitted_outline s n ≡ Ok o → reason ≡ unfitted_fault s n → IsMadeFor s n 0 o reason
made_for_nothing stays s n o reason none made is rest alike =
    let free : rest ≡ None = none_used rest (alike ∙ ap all_used none) in
    let here : with_work s None ≡ s = own-work s None none in
    rw (free, here) (record { outline = made; unfitted = sym is; after = (stays s n none).1 })

cost_made : UnboundedStays → (s : Fitter) (n cost : ℕ) (o : Outline) (reason : Option Fault) (told : Option ℕ)
    → fitted_outline s n ≡ Ok o → reason ≡ unfitted_fault s n → IfSome told (λ c. IsMadeFor s n c o reason)
    → ((s.work ≡ None) × (cost ≡ 0)) ⊎ (told ≡ Some cost) → IsMadeFor s n cost o reason
cost_made stays s n cost o reason told made is each (inl free) = rw free.1 (made_for_nothing stays s n o reason free.0 made is)
cost_made stays s n cost o reason told made is each (inr some) = rw some at each

-- a cost that is told is the glyph's
pub counts_made : UnboundedStays → (s : Fitter) (n : ℕ) (o : Outline) (reason : Option Fault) (counts : Option KeptCounts)
    (cost told : Option ℕ) → fitted_outline s n ≡ Ok o → reason ≡ unfitted_fault s n
    → IfSome told (λ c. IsMadeFor s n c o reason)
    → IfSome cost (λ c. ((s.work ≡ None) × (c ≡ 0)) ⊎ (told ≡ Some c))
    → IfSome counts (λ k. cost ≡ Some k.cost) → IfSome counts (λ k. IsMadeFor s n k.cost o reason)
counts_made stays s n o reason None cost told made is each by some = tt
counts_made stays s n o reason (Some k) cost told made is each by some =
    let own = rw some at by in cost_made stays s n k.cost o reason told made is each own

-- so are its points and its deltas
pub counts_are : (part : KeptCounts → ℕ) (asked : ℕ) (counts : Option KeptCounts) (told : Option ℕ)
    → IfSome told (λ n. n ≡ asked) → IfSome counts (λ k. told ≡ Some (part k)) → IfSome counts (λ k. part k ≡ asked)
counts_are part asked None told are some = tt
counts_are part asked (Some k) told are some = rw some at are

-- the pixels of a glyph that is made can be cut

-- the box of its rules holds the edges of an outline
box_by : (filled : Option BoxedRules) (rules : Option DropoutRules) (way : ChordRule) (o : Outline) (es : List Edge)
    → filled ≡ rules_for (extents_of o) rules → IfSome filled (λ rules. ExtentsFit rules.extents) → es ≡ edges_at way 0 o
    → IfSome filled (λ rules. IsBoxOf rules.extents es)
box_by None rules way o es is fits edges = tt
box_by (Some boxed) rules way o es is fits edges =
    let box : boxed.extents ≡ extents_of o = rules_boxed (Some boxed) rules o is in
    rw (box, edges) (outline_boxed way o (rw box at fits))

-- its contours are closed
closed_as : (filled : Option BoxedRules) (contours lines : List (List Edge)) → All IsClosed lines
    → IfSome filled (λ rules. contours ≡ lines) → IfSome filled (λ rules. All IsClosed contours)
closed_as None contours lines closed are = are
closed_as (Some rules) contours lines closed are = rw are closed

pub can_be_cut : (s : Fitter) (n : ℕ) (o : Outline) (m : MadeOutline) (g : LargeGlyph) → IsMadeOutline s n o m
    → g.edges ≡ edges_at m.rule 0 m.outline → length g.edges ≤ 2 ^ 19 → g.filled ≡ m.filled
    → IfSome m.filled (λ rules. contours_at g.edges g.ends ≡ contours_of m.rule 0 m.outline)
    → IfSome m.filled (λ rules. AreEnds (length g.edges) g.ends) → CanBeCut g
can_be_cut s n o m g made edges few filled lines ends =
    let edged : g.edges ≡ edges_at (chords_with s) 0 o = rw (made.rule, made.outline) at edges in
    let lined : IfSome m.filled (λ rules. contours_at g.edges g.ends ≡ contours_of (chords_with s) 0 o) = rw (made.rule, made.outline) at lines in
    record {
      few = few;
      ends = rw filled ends;
      boxed = rw filled (box_by m.filled (dropouts_of s (unfitted_fault s n) o) (chords_with s) o g.edges made.filled made.fits edged);
      closed = rw filled (closed_as m.filled (contours_at g.edges g.ends) (contours_of (chords_with s) 0 o)
          (all_closed (chords_with s) o.points o.ends (offset_at 0 o) (pos 0)) lined);
    }

-- a made outline's rules have its box
pub made_box : (s : Fitter) (n : ℕ) (o : Outline) (m : MadeOutline) → IsMadeOutline s n o m
    → IfSome m.filled (λ rules. rules.extents ≡ extents_of m.outline)
made_box s n o m made =
    rw made.outline (rules_boxed m.filled (dropouts_of s (unfitted_fault s n) o) o made.filled)

-- a glyph that is not cut
pub uncut_body : (g : LargeGlyph) (b : GlyphBody) → b ≡ large g → IsBodyOf g.edges (contours_at g.edges g.ends) g.filled b
uncut_body g b is = rw is (record { pixels = λ c j. refl; ink = refl })

-- the box of a glyph that can be cut is within the limits
pub box_fits : (filled : Option BoxedRules) (es : List Edge) → IfSome filled (λ rules. IsBoxOf rules.extents es)
    → IfSome filled (λ rules. ExtentsFit rules.extents)
box_fits None es boxed = tt
box_fits (Some rules) es boxed = boxed.fits
