use Rattle.std.proofs.Common.{◌≡◌, ◌+◌, ◌++◌, length, chars, IsUtf8}
use Rattle.std.specs.Str.Iter.{chars_rest}
use Rattle.tt_c_calls.specs.Offsets.{offsets_from, unit_offsets}
use Rattle.tt_c_calls.proofs.offsets.offsets_of.Given as goal

-- the offsets so far, and then those of the characters that are left
abbrev pub invariant-loop-c : goal.invariant-loop-c
invariant-loop-c l = record {
  utf8 : IsUtf8 (chars_rest l.rest);
  bytes : l.at + length (chars_rest l.rest) ≡ length l.fn.text;
  split : l.offsets.items ++ offsets_from l.fn.pairs (chars (chars_rest l.rest)) l.at ≡ unit_offsets l.fn.pairs l.fn.text;
}

abbrev pub decreases-loop-c : goal.decreases-loop-c
decreases-loop-c l = length (chars_rest l.rest)
