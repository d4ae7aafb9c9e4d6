use Rattle.std.proofs.Common.{◌≡◌, ◌++◌, ℕ, length, map, All}
use Rattle.std.specs.Vec.Iter.{into_iter_items, into_iter_len}
use Rattle.tt_fit.specs.Fitting.{Fitter}
use Rattle.tt_glyphs.specs.declared.drawing.DrawnGlyph.{DrawnGlyph}
use Rattle.tt_glyphs.specs.declared.ruled.TriedGlyph.{TriedGlyph}
use Rattle.tt_glyphs.specs.Drawn.{DrawnFits, IsDrawn, IsLeft, IsSourceOf}
use Rattle.tt_glyphs.specs.Tried.{tried_chords, tried_crossings}
use Rattle.tt_glyphs.proofs.Charged.{IsTriedBy}
use Rattle.tt_glyphs.proofs.drawing.draw_glyphs.Given as goal

-- the glyphs so far are drawn, and their chords and crossings are charged
abbrev pub invariant-loop-one : goal.invariant-loop-one
invariant-loop-one l = record {
  all : l.yielded ++ into_iter_items l.one-iterator ≡ l.fn.tried.items;
  count : into_iter_len l.one-iterator ≡ length (into_iter_items l.one-iterator);
  numbers : map (λ (d : DrawnGlyph). d.number) l.made.items ≡ map (λ (t : TriedGlyph). t.number) l.yielded;
  drawn : (maker : ℕ → Fitter) → ((n : ℕ) → IsSourceOf l.source (maker n)) → All (IsTriedBy maker) l.yielded
      → All (λ (d : DrawnGlyph). IsDrawn l.source.fit (maker d.number) d) l.made.items;
  fits : All DrawnFits l.made.items;
  left : IsLeft l.fn.limits (tried_chords l.yielded) (tried_crossings l.yielded) l.left;
}
