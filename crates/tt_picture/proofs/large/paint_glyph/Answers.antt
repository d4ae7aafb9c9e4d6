use Rattle.std.proofs.Common.{◌≡◌, ◌∙◌, ◌&&◌, nat_lt, length, ap, sym, arith}
use Rattle.std.proofs.lemmas.Bool.Decides.{nat_tests}
use Rattle.std.proofs.lemmas.Result.{on_ok_weaker}
use Rattle.tt_bitmap.proofs.Bands.{repainted}
use Rattle.tt_core.specs.Bits.{stride}
use Rattle.tt_picture.specs.Glyphs as glyphs
use Rattle.tt_picture.specs.Large.{large_shows_from, pens_in}
use Rattle.tt_picture.specs.Placed.{glyph_has, in_edges, place_has}
use Rattle.tt_picture.specs.Views.{body_view}
use Rattle.tt_picture.specs.declared.glyph.UncutGlyph.{UncutGlyph}
use Rattle.tt_picture.proofs.Bands.{none_painted}
use Rattle.tt_picture.proofs.Pens.{at_pens, no_pen, pens_within}
use Rattle.tt_picture.proofs.Placed.{none_in_edges, none_placed}
use Rattle.tt_picture.proofs.large.paint_glyph.Goals as goal

pub returns-in-Small : goal.returns-in-Small
returns-in-Small c =
    let g = c.args.glyph.now in
    let f = c.args.frame in
    let body : body_view c.glyph.inside.body ≡ g.body = ap (λ (g : glyphs.Glyph). g.body) c.glyph.view_is in
    let is = sym body ∙ ap body_view c.in-Small.is in
    none_painted (stride f.width) f.height f.width (place_has (glyph_has in_edges g) f c.args.line.now) c.args.rows.now
    (λ k r. none_placed (glyph_has in_edges g) f c.args.line.now k r (λ n k j. none_in_edges g n k j (ap (λ b. in_edges b k j) is)))

-- the line is without the glyph
pub returns-then-is_empty : goal.returns-then-is_empty
returns-then-is_empty c =
    let g = c.args.glyph.now in
    let f = c.args.frame in
    let line = c.args.line.now in
    let large = c.in-Large.uncut.value.large in
    let pens = c.in_ok-pens-in-Large.pens in
    let body : body_view c.glyph.inside.body ≡ g.body = ap (λ (g : glyphs.Glyph). g.body) c.glyph.view_is in
    let number : c.glyph.inside.number ≡ g.number = ap (λ (g : glyphs.Glyph). g.number) c.glyph.view_is in
    let is : g.body ≡ glyphs.large large = sym body ∙ ap body_view c.in-Large.is in
    let its : pens.items ≡ pens_in g.number line = c.in_ok-pens-in-Large.ensures ∙ ap (λ n. pens_in n line) number in
    let none : length pens.items ≡ 0 = grind (arith, nat_tests, pens.ok.0, c.is_empty.ensures, c.if-is_empty.true) in
    none_painted (stride f.width) f.height f.width (place_has (glyph_has in_edges g) f line) c.args.rows.now
    (λ k r. at_pens f g large line k r is ∙ ap (λ ps. large_shows_from f large ps k r) (sym its) ∙ no_pen f large pens.items k r none)

pub paint-requires-clause-pens : goal.paint-requires-clause-pens
paint-requires-clause-pens c =
    rw (c.deref-in-Large.ensures.value, c.in_ok-pens-in-Large.ensures) (pens_within c.glyph.inside.number c.args.line.now c.requires.pens)

pub returns-else-is_empty : goal.returns-else-is_empty
returns-else-is_empty c =
    let g = c.args.glyph.now in
    let f = c.args.frame in
    let line = c.args.line.now in
    let large = c.deref.result.now.large in
    let pens = c.in_ok-pens-in-Large.pens in
    let body : body_view c.glyph.inside.body ≡ g.body = ap (λ (g : glyphs.Glyph). g.body) c.glyph.view_is in
    let number : c.glyph.inside.number ≡ g.number = ap (λ (g : glyphs.Glyph). g.number) c.glyph.view_is in
    let is : g.body ≡ glyphs.large large = sym body ∙ ap body_view c.in-Large.is
    ∙ ap (λ (uncut : UncutGlyph). glyphs.large uncut.large) (sym c.deref.ensures) in
    let its : c.deref-in-Large.result.now ≡ pens_in g.number line =
    c.deref-in-Large.ensures.value ∙ c.in_ok-pens-in-Large.ensures ∙ ap (λ n. pens_in n line) number in
    on_ok_weaker c.paint.result
    (λ painted. repainted (stride f.width) f.height (λ r k. nat_lt k f.width && large_shows_from f large c.deref-in-Large.result.now k r)
    (λ r k. nat_lt k f.width && place_has (glyph_has in_edges g) f line k r) c.args.rows.now c.paint.new.rows painted
    (λ r k below. ap (λ b. nat_lt k f.width && b) (ap (λ ps. large_shows_from f large ps k r) its ∙ sym (at_pens f g large line k r is))))
    c.paint.ensures
