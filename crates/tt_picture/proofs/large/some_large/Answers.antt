use Rattle.std.proofs.Common.{◌≡◌, ◌∙◌, ◌||◌, false, get_or, ap, ap₂, sym}
use Rattle.tt_picture.specs.Glyphs as glyphs
use Rattle.tt_picture.specs.Placed.{glyph_has, in_edges}
use Rattle.tt_picture.specs.Views.{body_view}
use Rattle.tt_picture.proofs.Placed.{none_in_edges, number_more}
use Rattle.tt_picture.proofs.large.some_large.Goals as goal

pub loop-glyph-preserved : goal.loop-glyph-preserved
loop-glyph-preserved c = λ n k j.
    let gs = c.args.glyphs.now in
    let i = c.loop-glyph.glyph-index in
    let g = c.glyph-item.result in
    let here : get_or gs i g ≡ g = sym c.glyph-item.is in
    let body : body_view c.glyph.inside.body ≡ g.body = ap (λ (g : glyphs.Glyph). g.body) c.glyph.view_is in
    let is = sym body ∙ ap body_view c.in_default.is in
    let none : glyph_has in_edges g n k j ≡ false = none_in_edges g n k j (ap (λ b. in_edges b k j) is) in
    number_more in_edges gs i g n k j c.loop-glyph-test.true here ∙ ap₂ (λ a b. a || b) (c.loop-glyph.invariant n k j) none
