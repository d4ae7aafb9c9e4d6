use Rattle.std.proofs.Common.{◌≡◌, ◌++◌, length, chars, encode_utf8_all, string_bytes, IsUtf8}
use Rattle.std.specs.Str.Iter.{chars_rest}
use Rattle.tt_rows.specs.Composed.{composed_after}
use Rattle.tt_rows.proofs.composing.composed_after.Given as goal

-- the text so far, and then the last character with those that are left
abbrev pub invariant-loop-c : goal.invariant-loop-c
invariant-loop-c l = record {
  utf8 : IsUtf8 (chars_rest l.rest);
  left : string_bytes l.made ++ encode_utf8_all (composed_after l.fn.cmap l.last (chars (chars_rest l.rest)))
      ≡ encode_utf8_all (composed_after l.fn.cmap l.fn.before (chars l.fn.text));
}

abbrev pub decreases-loop-c : goal.decreases-loop-c
decreases-loop-c l = length (chars_rest l.rest)
