use Rattle.std.proofs.Common.{◌≡◌, ◌<◌, ◌≤◌, drop, length, map, vec_capacity, All}
use Rattle.tt_picture.specs.Distinct.{distinct, distinct_after}
use Rattle.tt_picture.specs.Glyphs.{ArePlaces}
use Rattle.tt_strike.proofs.distinct_glyphs.distinct.Given as goal

-- the glyphs with a place are those among the numbers, and with the rest of the line these are all
abbrev pub invariant-loop-placed : goal.invariant-loop-placed
invariant-loop-placed l = record {
  room : length l.places.items ≡ l.glyphs;
  known : All (λ n. n < l.glyphs) l.numbers.items;
  few : length l.numbers.items ≤ l.placed-index;
  spare : length l.line ≤ vec_capacity l.numbers;
  places : ArePlaces l.places.items l.numbers.items;
  numbers : distinct_after l.numbers.items (map (λ g. g.0) (drop l.placed-index l.line)) ≡ distinct (map (λ g. g.0) l.line);
}
