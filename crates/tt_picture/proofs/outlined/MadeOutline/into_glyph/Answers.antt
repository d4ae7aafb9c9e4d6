use Rattle.std.proofs.Common.{◌≡◌, ◌∙◌, ap, SFits, w32, of_z, to_z, refl, rules}
use Rattle.std.specs.Prelude.{IfSome, pos}
use Rattle.std.proofs.lemmas.Int.{to_z-of_z}
use Rattle.tt_arc.proofs.Closed.{all_closed}
use Rattle.tt_fit.specs.Fitting.{Fitter}
use Rattle.tt_fit.specs.outline.Outline.{Outline}
use Rattle.tt_fit.specs.outline.Steps.{advance_left}
use Rattle.tt_fit.specs.outline.Views.{outline_of}
use Rattle.tt_scan.specs.Contours.{contours_at}
use Rattle.tt_scan_gaps.specs.Boxes.{ExtentsFit}
use Rattle.tt_strike_kept.specs.declared.cut.GlyphFacts.{GlyphFacts}
use Rattle.tt_picture.specs.Fitted.{IsMadeOutline, MadeOutline}
use Rattle.tt_picture.specs.Glyphs.{Glyph, IsBodyOf}
use Rattle.tt_picture.specs.Shapes.{contours_of, extents_of, offset_at}
use Rattle.tt_picture.specs.Views.{body_view, glyph_view}
use Rattle.tt_picture.proofs.CutGlyphs.{IsGlyphOf, can_be_cut, drawn_of_outline, made_box, made_cached, made_glyph}
use Rattle.tt_picture.proofs.OutlineBox.{outline_boxed}
use Rattle.tt_picture.proofs.outlined.MadeOutline.into_glyph.Goals.{In_ok-body}
use Rattle.tt_picture.proofs.outlined.MadeOutline.into_glyph.Goals as goal

-- the box of the rules is that of the outline
pub box_of-extents-requires-clause-same : goal.box_of-extents-requires-clause-same
box_of-extents-requires-clause-same c =
    let i = c.self.inside in
    let m : MadeOutline = record { outline = outline_of i.outline; rule = i.rule; filled = i.filled; counts = i.counts; unfitted = i.outline.unfitted } in
    let (s, o, made) = c.requires.made in
    made_box s c.args.number o m (rw c.self.view_is made)

pub invariant_of-edged : goal.invariant_of-edged
invariant_of-edged c =
    let i = c.self.inside in
    let m : MadeOutline = record { outline = outline_of i.outline; rule = i.rule; filled = i.filled; counts = i.counts; unfitted = i.outline.unfitted } in
    let (s, o, made) = c.requires.made in
    let own : IsMadeOutline s c.args.number o m = rw c.self.view_is made in
    let of_outline = c.in_ok-made.ensures in
    rw c.in_ok-tape.ensures (
      can_be_cut s c.args.number o m
          (record { edges = c.in_ok-made.made.list.edges; ends = c.in_ok-made.made.ends.items; filled = i.filled }) own
          of_outline.exact of_outline.few refl of_outline.contours of_outline.ends,
      refl,
    )

-- the edges of an outline are those of its contours, which are closed
pub into_body-requires-clause-closed : goal.into_body-requires-clause-closed
into_body-requires-clause-closed c =
    let i = c.self.inside in
    let o = outline_of i.outline in
    rw (c.in_ok-tape.ensures, c.in_ok-made.ensures.exact) (
      contours_of i.rule 0 o,
      all_closed i.rule o.points o.ends (offset_at 0 o) (pos 0),
      c.contours_joined.ensures i.rule o.points o.ends (offset_at 0 o) (pos 0),
    )

-- the box of its points holds them
pub into_body-requires-clause-boxed : goal.into_body-requires-clause-boxed
into_body-requires-clause-boxed c =
    let i = c.self.inside in
    let o = outline_of i.outline in
    let boxed = c.box_of-extents.ensures in
    let fits : ExtentsFit (extents_of o) = rw boxed.exact at boxed.fits in
    rw (c.in_ok-tape.ensures, c.in_ok-made.ensures.exact, boxed.exact) (outline_boxed i.rule o fits)

pub into_body-requires-clause-same : goal.into_body-requires-clause-same
into_body-requires-clause-same c =
    let i = c.self.inside in
    let m : MadeOutline = record { outline = outline_of i.outline; rule = i.rule; filled = i.filled; counts = i.counts; unfitted = i.outline.unfitted } in
    let (s, o, made) = c.requires.made in
    rw c.box_of-extents.ensures.exact (made_box s c.args.number o m (rw c.self.view_is made))

pub returns-clause-chords : goal.returns-clause-chords
returns-clause-chords c = rw (c.in_ok-body.ensures.facts, ← c.self.view_is) c.in_ok-made.ensures.chords

pub returns-clause-crossings : goal.returns-clause-crossings
returns-clause-crossings c =
    let crosses = rw c.in_ok-tape.ensures at c.crossings.ensures in
    rw (c.in_ok-body.ensures.facts, ← c.self.view_is, ← c.in_ok-made.ensures.exact) crosses

pub returns-clause-cut : goal.returns-clause-cut
returns-clause-cut c = rw c.in_ok-body.ensures.facts c.in_ok-body.ensures.cut

-- the glyph
abbrev glyph_of : In_ok-body → Glyph
glyph_of c = glyph_view c.args.number c.in_ok-body.body

-- it has the pixels and the facts of its outline
is_of : (c : In_ok-body) → (s : Fitter) (o : Outline) → IsMadeOutline s c.args.number o c.args.self
    → IsGlyphOf s c.args.number o (glyph_of c)
is_of c s o made =
    let i = c.self.inside in
    let m : MadeOutline = record { outline = outline_of i.outline; rule = i.rule; filled = i.filled; counts = i.counts; unfitted = i.outline.unfitted } in
    let own : IsMadeOutline s c.args.number o m = rw c.self.view_is made in
    let es = c.in_ok-made.made.list.edges in
    let lines = contours_at es c.in_ok-made.made.ends.items in
    let of_outline = c.in_ok-made.ensures in
    let facts = c.in_ok-body.ensures.facts in
    let body : IsBodyOf es lines i.filled (body_view c.in_ok-body.body) = rw c.in_ok-tape.ensures at c.in_ok-body.ensures.body in
    let fits : SFits w32 c.advance_left.result = search rules in
    let same : to_z w32 (of_z w32 c.advance_left.result) ≡ c.advance_left.result = simp to_z-of_z refl in
    let advance : to_z w32 (of_z w32 c.advance_left.result) ≡ advance_left (outline_of i.outline) = same ∙ c.advance_left.ensures.exact in
    made_glyph s c.args.number o m (glyph_of c) es lines own of_outline.exact of_outline.contours body
    (ap (λ (f : GlyphFacts). f.crossings) facts ∙ rw c.in_ok-tape.ensures at c.crossings.ensures)
    (ap (λ (f : GlyphFacts). f.advance_left) facts ∙ advance)
    (ap (λ (f : GlyphFacts). f.chords) facts ∙ of_outline.chords)
    (ap (λ (f : GlyphFacts). f.unfitted) facts)

pub returns-clause-valid : goal.returns-clause-valid
returns-clause-valid c = λ s o outlined made.
    let all = (goal.at.returns-clause-valid c).In_ok-body in
    drawn_of_outline s c.args.number o (glyph_of all) outlined refl (is_of all s o made)

-- a glyph that is made may be cached
pub returns-in_err-cache_in-clause-cached : goal.returns-in_err-cache_in-clause-cached
returns-in_err-cache_in-clause-cached c = λ s o made before.
    let all = (goal.at.returns-in_err-cache_in-clause-cached c).In_ok-body in
    let i = c.self.inside in
    let m : MadeOutline = record { outline = outline_of i.outline; rule = i.rule; filled = i.filled; counts = i.counts; unfitted = i.outline.unfitted } in
    c.in_err-cache_in.ensures.cached s
    (λ k kept. made_cached s c.args.number o m (glyph_of all) k (rw c.self.view_is made) (is_of all s o made) kept) before

pub returns-clause-cached : goal.returns-clause-cached
returns-clause-cached c = λ s o made before.
    let all = (goal.at.returns-clause-cached c).In_ok-body in
    let i = c.self.inside in
    let m : MadeOutline = record { outline = outline_of i.outline; rule = i.rule; filled = i.filled; counts = i.counts; unfitted = i.outline.unfitted } in
    c.in_ok-cache_in.ensures.cached s
    (λ k kept. made_cached s c.args.number o m (glyph_of all) k (rw c.self.view_is made) (is_of all s o made) kept) before
