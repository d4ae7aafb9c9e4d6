use Rattle.std.proofs.Common.{◌≡◌, map}
use Rattle.std.specs.List.{range_with_len}
use Rattle.tt_fit.specs.ControlValues.{control_word}
use Rattle.tt_fit.proofs.control_values.control_words.Given as goal

abbrev pub invariant-loop-i : goal.invariant-loop-i
invariant-loop-i l = l.words.items ≡ map (control_word l.cvt) (range_with_len 0 l.i)
