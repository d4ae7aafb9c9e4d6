use Rattle.std.proofs.Common.{◌≡◌, length, chars, IsUtf8}
use Rattle.std.specs.Str.Iter.{chars_rest}
use Rattle.tt_rows.specs.ComposedLaws.{has_pair_after}
use Rattle.tt_rows.proofs.composing.has_pair_after.Given as goal

-- the characters so far have no pair that composes
abbrev pub invariant-loop-c : goal.invariant-loop-c
invariant-loop-c l = record {
  utf8 : IsUtf8 (chars_rest l.rest);
  left : has_pair_after l.fn.cmap l.last (chars (chars_rest l.rest)) ≡ has_pair_after l.fn.cmap l.fn.before (chars l.fn.text);
}

abbrev pub decreases-loop-c : goal.decreases-loop-c
decreases-loop-c l = length (chars_rest l.rest)
