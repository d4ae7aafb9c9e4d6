use Rattle.std.proofs.Common.{◌≡◌, ℕ, ◌/◌, ◌*◌, ◌≤◌, ◌&&◌, ◌||◌, min, nat_le, nat_lt, length}
use Rattle.tt_bitmap.specs.Bitmaps.{pixel}
use Rattle.tt_bitmap.proofs.run.blacken_run.Given as goal

-- the pixels of the words so far are black
abbrev pub invariant-loop-at : goal.invariant-loop-at
invariant-loop-at l = record {
  order : l.from / 56 ≤ l.at;
  pixels : (i : ℕ) → pixel l.words i ≡ (pixel l.fn.words i || (nat_le l.from i && nat_lt i (min l.past (56 * l.at))));
  len : length l.words ≡ length l.fn.words;
}
