use Rattle.std.proofs.Common.{◌≡◌, ◌++◌, length, string_bytes, IsUtf8}
use Rattle.std.specs.Str.Iter.{chars_rest}
use Rattle.tt_advice.specs.Shown.{shown}
use Rattle.tt_advice.proofs.shown.push_shown.Given as goal

-- the text so far, and then the characters that are left, is the whole text
abbrev pub invariant-loop-c : goal.invariant-loop-c
invariant-loop-c l = record {
  utf8 : IsUtf8 (chars_rest l.rest);
  left : string_bytes l.text ++ shown (chars_rest l.rest) ≡ string_bytes l.initial.text ++ shown l.fn.word;
}

abbrev pub decreases-loop-c : goal.decreases-loop-c
decreases-loop-c l = length (chars_rest l.rest)
