use Rattle.std.proofs.Common.{◌≡◌, ◌<◌, All, ◌++◌, chars}
use Rattle.tt_cmap.specs.Maps.{glyph_of_unit, units_by}
use Rattle.tt_line.proofs.known.KnownAdvances.has_all.Given as goal

-- the units so far have glyphs
abbrev pub invariant-loop-unit : goal.invariant-loop-unit
invariant-loop-unit l = record {
  split : l.yielded ++ l.unit-iterator ≡ units_by l.fn.self.cmap (chars l.fn.text);
  have : All (λ u. 0 < glyph_of_unit l.fn.self.cmap u) l.yielded;
  same : l.self ≡ l.fn.self;
}
