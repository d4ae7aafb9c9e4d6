use Rattle.std.proofs.Common.{◌<◌, drop, length}
use Rattle.std.specs.Prelude.{All}
use Rattle.tt_picture.specs.Glyphs.{numbers_of}
use Rattle.tt_strike.proofs.Cleared.{AreCleared}
use Rattle.tt_strike.proofs.place_table.PlaceTable.give_back.Given as goal

-- the glyphs that are left may still have their places, and no other glyph has one
abbrev pub invariant-loop-glyph : goal.invariant-loop-glyph
invariant-loop-glyph l = record {
  within : All (λ g. g.number < length l.table.items) l.made;
  cleared : AreCleared l.table.items (numbers_of (drop l.glyph-index l.made));
}
