use Rattle.std.proofs.Common.{◌≡◌, length, chars, IsUtf8}
use Rattle.std.specs.Str.Iter.{chars_rest}
use Rattle.tt_cmap.specs.Units.{units}
use Rattle.tt_cmap.proofs.units.first_unit.Given as goal

-- the characters so far are passed over
abbrev pub invariant-loop-character : goal.invariant-loop-character
invariant-loop-character l = record {
  utf8 : IsUtf8 (chars_rest l.rest);
  left : units l.fn.pairs (chars (chars_rest l.rest)) ≡ units l.fn.pairs (chars l.fn.text);
}

abbrev pub decreases-loop-character : goal.decreases-loop-character
decreases-loop-character l = length (chars_rest l.rest)
