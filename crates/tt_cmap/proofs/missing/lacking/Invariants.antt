use Rattle.std.proofs.Common.{◌≡◌, chars}
use Rattle.tt_cmap.specs.Lacking.{lacking_of}
use Rattle.tt_cmap.proofs.WithoutGlyphs.{lacking_after}
use Rattle.tt_cmap.proofs.missing.lacking.Given as goal

-- the list so far, and then the units that are left
abbrev pub invariant-loop-unit : goal.invariant-loop-unit
invariant-loop-unit l = record {
  same : l.known ≡ l.fn.cmap;
  listed : lacking_after l.fn.cmap l.listed.items l.unit-iterator ≡ lacking_of l.fn.cmap (chars l.fn.text);
}
