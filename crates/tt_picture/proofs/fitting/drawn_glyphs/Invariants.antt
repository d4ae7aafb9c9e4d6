use Rattle.std.proofs.Common.{◌≡◌, ◌+◌, ◌++◌, ◌≤◌, ℕ, length, vec_capacity, vec_len}
use Rattle.std.specs.Vec.Iter.{into_iter_items, into_iter_len}
use Rattle.tt_fit.specs.Fitting.{Fitter}
use Rattle.tt_picture.specs.Cached.{limit_of}
use Rattle.tt_picture.specs.Fitted.{AreFitted, fitted_chords, fitted_crossings, fitted_numbers}
use Rattle.tt_picture.specs.Glyphs.{AreDrawn, numbers_of}
use Rattle.tt_picture.proofs.Cached.{Serves}
use Rattle.tt_picture.proofs.fitting.drawn_glyphs.Given as goal

-- the glyphs so far are drawn, their chords and crossings are charged, the cache serves the fitters still, and there is
-- room for the rest
abbrev pub invariant-loop-one : goal.invariant-loop-one
invariant-loop-one l = record {
  all : l.yielded ++ into_iter_items l.one-iterator ≡ l.fn.fitted.items;
  count : into_iter_len l.one-iterator ≡ length (into_iter_items l.one-iterator);
  numbers : numbers_of l.made.items ≡ fitted_numbers l.yielded;
  drawn : (maker : ℕ → Fitter) → AreFitted maker l.yielded → AreDrawn maker l.made.items;
  left : l.left.chords + fitted_chords l.yielded ≡ l.fn.limits.chords;
  crossed : l.left.crossings + fitted_crossings l.yielded ≡ l.fn.limits.crossings;
  cached : Serves l.fn.cache l.cache l.yielded;
  limit : limit_of l.cache ≡ limit_of l.fn.cache;
  made : vec_len l.made ≡ length l.yielded;
  spare : length l.fn.fitted.items ≤ vec_capacity l.made;
}
