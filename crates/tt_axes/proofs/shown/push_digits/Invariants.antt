use Rattle.std.proofs.Common.{◌≡◌, ◌++◌, ◌-◌, ◌<◌, ◌^◌, string_bytes}
use Rattle.tt_axes.specs.ShownValues.{fraction_digits}
use Rattle.tt_axes.proofs.shown.push_digits.Given as goal

-- the text so far, with the digits that are left, is the whole text
abbrev pub invariant-loop-i : goal.invariant-loop-i
invariant-loop-i l = record {
  text : string_bytes l.text ++ fraction_digits l.rest (5 - l.i) ≡ string_bytes l.fn.text ++ fraction_digits l.fraction 5;
  small : l.rest < 10 ^ (5 - l.i);
}
