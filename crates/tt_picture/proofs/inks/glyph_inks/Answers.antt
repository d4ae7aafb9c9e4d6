use Rattle.std.proofs.Common.{◌≡◌, sym, refl, get_or}
use Rattle.std.specs.Prelude.{IfSome}
use Rattle.std.proofs.lemmas.List.{map_more}
use Rattle.std.proofs.lemmas.List.Elements.{All-push}
use Rattle.tt_bitmap.specs.Inks.{IsNear}
use Rattle.tt_picture.specs.Glyphs.{Glyph, body_ink}
use Rattle.tt_picture.proofs.inks.glyph_inks.Goals as goal

pub loop-glyph-preserved : goal.loop-glyph-preserved
loop-glyph-preserved c =
    let gs = c.args.glyphs.now in
    let i = c.loop-glyph.glyph-index in
    let g = c.glyph-item.result in
    let so_far = c.loop-glyph.invariant in
    let more = map_more (λ (g : Glyph). body_ink g.body) gs i g c.loop-glyph-test.true in
    let here : get_or gs i g ≡ g = sym c.glyph-item.is in
    record {
      exact = rw (c.in_ok-push.ensures.items, more, here, so_far.exact, c.in_ok-ink.ensures.exact) refl;
      near = rw c.in_ok-push.ensures.items (All-push (λ ink. IfSome ink IsNear) c.loop-glyph.inks.items _ so_far.near
          c.in_ok-ink.ensures.near);
    }
