use Rattle.std.proofs.Common.{◌∙◌, ◌<◌, arith}
use Rattle.std.proofs.lemmas.List.{append-nil, at_drop_all}
use Rattle.std.proofs.lemmas.List.Elements.{All-push}
use Rattle.tt_cmap.specs.Maps.{glyph_count}
use Rattle.tt_bitmap_font.specs.Characters.{glyphs_for}
use Rattle.tt_bitmap_font.proofs.Listing.{glyphs_next}
use Rattle.tt_bitmap_font.proofs.characters.glyphs_for.Goals as goal

pub loop-c-preserved : goal.loop-c-preserved
loop-c-preserved c =
    let m = c.args.cmap.now in
    let before = c.loop-c.glyphs.items in
    let glyph = c.from.result in
    record {
      all = rw (c.in_ok-push.ensures.items, c.from.ensures, c.glyph_for.ensures.exact)
          (glyphs_next m before c.args.characters.now c.loop-c.c-index c.c-item.result c.loop-c-test.true c.c-item.is ∙ c.loop-c.invariant.all);
      known = rw c.in_ok-push.ensures.items
          (All-push (λ g. g < glyph_count m) before glyph c.loop-c.invariant.known (rw c.from.ensures c.glyph_for.ensures.known));
    }

pub returns-clause-exact : goal.returns-clause-exact
returns-clause-exact c =
    let none_left = at_drop_all (glyphs_for c.args.cmap.now) c.args.characters.now c.loop-c.c-index (omega (arith, c.loop-c-test.false)) in
    rw (← append-nil c.loop-c.glyphs.items) (rw none_left at c.loop-c.invariant.all)
