use Rattle.std.proofs.Common.{refl}
use Rattle.tt_picture.specs.Fitted as fitted
use Rattle.tt_picture.specs.Fitted.{IsFitted}
use Rattle.tt_strike_kept.specs.Glyph.{KeptGlyph}
use Rattle.tt_picture.proofs.CutGlyphs.{cached_drawn}
use Rattle.tt_picture.proofs.glyph.Glyph.cached.Goals as goal

pub returns-clause-valid : goal.returns-clause-valid
returns-clause-valid c = λ s is.
    let i = c.kept.inside in
    let cut = i.cut.value in
    let k : KeptGlyph = record {
      bitmap = cut.bitmap;
      ink = cut.ink;
      advance_left = cut.facts.advance_left;
      chords = cut.facts.chords;
      crossings = cut.facts.crossings;
      counts = i.counts;
      unfitted = cut.facts.unfitted;
    } in
    let own : IsFitted s (record { number = c.args.number; body = fitted.kept k }) = rw c.kept.view_is is in
    cached_drawn s c.args.number k _ own refl
