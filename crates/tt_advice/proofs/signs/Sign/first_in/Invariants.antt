use Rattle.std.proofs.Common.{◌≡◌, length, chars, IsUtf8}
use Rattle.std.specs.Prelude.{find}
use Rattle.std.specs.Str.Iter.{chars_rest}
use Rattle.tt_advice.specs.Signs.{is_of}
use Rattle.tt_advice.proofs.signs.Sign.first_in.Given as goal

-- the characters so far have not the sign
abbrev pub invariant-loop-c : goal.invariant-loop-c
invariant-loop-c l = record {
  utf8 : IsUtf8 (chars_rest l.rest);
  left : find (is_of l.fn.self) (chars (chars_rest l.rest)) ≡ find (is_of l.fn.self) (chars l.fn.text);
}

abbrev pub decreases-loop-c : goal.decreases-loop-c
decreases-loop-c l = length (chars_rest l.rest)
