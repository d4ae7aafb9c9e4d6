use Rattle.std.proofs.Common.{ℕ, map, [], ◌∷◌}
use Rattle.std.proofs.lemmas.Iterator.{YieldsList-from_slice, YieldsList-from_zip}
use Rattle.std.proofs.lemmas.Iterator.Consumers.{YieldsList-end}
use Rattle.std.proofs.lemmas.List.{map-append}
use Rattle.tt_glyphs.specs.declared.told.GlyphEntry.{GlyphEntry}
use Rattle.tt_bitmap_font.proofs.Listing.{pairs_push}
use Rattle.tt_bitmap_font.proofs.made.characters_by.Goals as goal

pub loop-code-preserved : goal.loop-code-preserved
loop-code-preserved c =
    let so_far = map (λ p. (p.0.now, p.1.now)) c.loop-code.yielded in
    rw (
      c.in_ok-push.ensures.items,
      c.in_ok-character_by.ensures,
      c.loop-code.invariant,
      map-append {B = ℕ × GlyphEntry} (λ p. (p.0.now, p.1.now)) c.loop-code.yielded ((c.in-Some.code, c.in-Some.entry) ∷ []),
    )
    (pairs_push c.args.face.now so_far (c.in-Some.code.now, c.in-Some.entry.now))

pub returns : goal.returns
returns c =
    let cs = YieldsList-from_slice c.args.characters.now cc in
    let es = YieldsList-from_slice c.args.entries.now cc in
    let e = YieldsList-end (YieldsList-from_zip cs es) c.loop-code.yielded
    c.loop-code.code-iterator c.loop-code.yielded_by c.next.result c.next.new.self c.in-None.is c.next.ensures.steps in
    rw e.0 at c.loop-code.invariant
