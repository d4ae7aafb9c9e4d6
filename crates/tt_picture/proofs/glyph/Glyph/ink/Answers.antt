use Rattle.std.proofs.Common.{◌≡◌, ◌∙◌, ap, sym, refl}
use Rattle.tt_picture.specs.Glyphs as glyphs
use Rattle.tt_picture.specs.Glyphs.{Glyph}
use Rattle.tt_picture.specs.Views.{body_view}
use Rattle.tt_picture.proofs.glyph.Glyph.ink.Goals as goal

pub returns-in-Small-clause-exact : goal.returns-in-Small-clause-exact
returns-in-Small-clause-exact c =
    let cut = c.in-Small.cut.value in
    let is : c.args.self.now.body ≡ glyphs.small cut.bitmap cut.ink =
    ap (λ (g : Glyph). g.body) (sym c.self.view_is) ∙ ap body_view c.in-Small.is in
    rw (is, c.deref.ensures) refl

pub returns-in-Small-clause-near : goal.returns-in-Small-clause-near
returns-in-Small-clause-near c = rw c.deref.ensures c.in-Small.cut.value.near

pub returns-in-Large-clause-exact : goal.returns-in-Large-clause-exact
returns-in-Large-clause-exact c =
    let is : c.args.self.now.body ≡ glyphs.large c.in-Large.uncut.value.large =
    ap (λ (g : Glyph). g.body) (sym c.self.view_is) ∙ ap body_view c.in-Large.is in
    rw is (rw c.deref-in-Large.ensures at c.ink.ensures.exact)
