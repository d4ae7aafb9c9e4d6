use Rattle.std.proofs.Common.{◌≡◌, ap, sym}
use Rattle.tt_picture.specs.Glyphs.{Glyph}
use Rattle.tt_picture.specs.Views.{glyph_view}
use Rattle.tt_picture.specs.declared.glyph.GlyphBody.TheVariants as body
use Rattle.tt_picture.proofs.glyph.Glyph.cache_in.Goals as goal

pub returns-clause-cached : goal.returns-clause-cached
returns-clause-cached c = λ s one own.
    let i = c.self.inside in
    let is : glyph_view i.number (body.Small c.in-Small.cut) ≡ c.args.self.now = rw c.in-Small.is at c.self.view_is in
    let number : i.number ≡ c.args.self.now.number = ap (λ (g : Glyph). g.number) is in
    let shared = c.in_ok-clone.ensures.cases in
    c.put.ensures.cached s (rw number (one _ (record {
      body = rw shared (ap (λ (g : Glyph). g.body) (sym is));
      advance = rw shared (ap (λ (g : Glyph). g.advance_left) is);
      chords = rw shared (ap (λ (g : Glyph). g.chords) is);
      crossings = rw shared (ap (λ (g : Glyph). g.crossings) is);
      counted = c.in-Some.is;
      unfitted = rw shared (ap (λ (g : Glyph). g.unfitted) is);
    }))) own
