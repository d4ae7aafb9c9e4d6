use Rattle.std.proofs.Common.{◌≡◌, ◌∙◌, ap}
use Rattle.tt_fit.specs.outline.Views.{outline_of}
use Rattle.tt_picture.specs.Fitted.{MadeOutline}
use Rattle.tt_picture.proofs.fitted.FittedGlyph.has_chords_within.Goals as goal

pub returns-in-Outline : goal.returns-in-Outline
returns-in-Outline c =
    let m = c.in-Outline.made.value in
    let outline : outline_of c.behind-made.inside.outline ≡ m.outline =
    ap (λ (m : MadeOutline). m.outline) (c.behind-made.view_is ∙ c.deref.ensures) in
    let rule : c.behind-made-in-Outline.inside.rule ≡ m.rule =
    ap (λ (m : MadeOutline). m.rule) (c.behind-made-in-Outline.view_is ∙ c.deref-in-Outline.ensures) in
    rw (← c.self.view_is, c.in-Outline.is, ← outline, ← rule) c.has_chords_within.ensures
