use Rattle.std.proofs.Common.{◌≡◌, ◌++◌, length, chars, drop, map}
use Rattle.tt_cmap.specs.Maps.{units_by}
use Rattle.tt_c_calls.specs.Maps.{glyph_told}
use Rattle.tt_c_calls.proofs.mapping.write_glyphs.Given as goal

-- the glyphs of the units so far, and then the unchanged room
abbrev pub invariant-loop-unit : goal.invariant-loop-unit
invariant-loop-unit l = record {
  split : l.yielded ++ l.unit-iterator ≡ units_by l.face.cmap (chars l.text);
  count : l.i ≡ length l.yielded;
  room : l.room ≡ map (glyph_told l.face.metrics l.face.cmap) l.yielded ++ drop l.i l.initial.room;
}
