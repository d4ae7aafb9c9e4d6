use Rattle.std.proofs.Common.{◌≡◌, ◌∙◌, ap, sym, refl}
use Rattle.std.proofs.lemmas.Result.{IfOk-weaker}
use Rattle.tt_picture.specs.Fitted.{FittedBody, FittedGlyph, outlined}
use Rattle.tt_picture.specs.Views.{fitted_view}
use Rattle.tt_picture.proofs.CutGlyphs.{made_of}
use Rattle.tt_picture.proofs.fitted.FittedGlyph.into_glyph.Goals.{After-into_inner}
use Rattle.tt_picture.proofs.fitted.FittedGlyph.into_glyph.Goals as goal

abbrev with_body : (c : After-into_inner) → FittedBody → FittedGlyph
with_body c b = record { number = c.self.inside.number; body = b }

-- the glyph has its outline
self_is : (c : After-into_inner) → c.args.self ≡ with_body c (outlined c.into_inner.result)
self_is c =
    sym c.self.view_is ∙ ap (with_body c) (ap fitted_view c.in-Outline.is ∙ ap outlined (sym c.into_inner.ensures))

pub into_glyph-requires : goal.into_glyph-requires
into_glyph-requires c =
    let all = (goal.at.into_glyph-requires c).After-into_inner in
    let (s, is) = c.requires.fitted in
    let (o, outline, made) = made_of s c.args.self c.self.inside.number c.into_inner.result (self_is all) is in
    record { made = (s, o, made) }

pub returns-in-Outline-clause-number : goal.returns-in-Outline-clause-number
returns-in-Outline-clause-number c =
    rw (self_is (goal.at.returns-in-Outline-clause-number c).After-into_inner) c.into_glyph.ensures.number

pub returns-in-Outline-clause-chords : goal.returns-in-Outline-clause-chords
returns-in-Outline-clause-chords c =
    rw (self_is (goal.at.returns-in-Outline-clause-chords c).After-into_inner) c.into_glyph.ensures.chords

pub returns-in-Outline-clause-crossings : goal.returns-in-Outline-clause-crossings
returns-in-Outline-clause-crossings c =
    rw (self_is (goal.at.returns-in-Outline-clause-crossings c).After-into_inner) c.into_glyph.ensures.crossings

pub returns-in-Outline-clause-cut : goal.returns-in-Outline-clause-cut
returns-in-Outline-clause-cut c =
    rw (self_is (goal.at.returns-in-Outline-clause-cut c).After-into_inner) c.into_glyph.ensures.cut

pub returns-in-Outline-clause-valid : goal.returns-in-Outline-clause-valid
returns-in-Outline-clause-valid c =
    let all = (goal.at.returns-in-Outline-clause-valid c).After-into_inner in
    IfOk-weaker c.into_glyph.result _ _ (λ g valid s is.
    let (o, outline, made) = made_of s c.args.self c.self.inside.number c.into_inner.result (self_is all) is in
    valid s o outline made)
    c.into_glyph.ensures.valid

pub returns-in-Outline-clause-cached : goal.returns-in-Outline-clause-cached
returns-in-Outline-clause-cached c = λ s is before.
    let all = (goal.at.returns-in-Outline-clause-cached c).After-into_inner in
    let (o, outline, made) = made_of s c.args.self c.self.inside.number c.into_inner.result (self_is all) is in
    c.into_glyph.ensures.cached s o made before
