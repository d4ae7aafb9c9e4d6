use Rattle.std.proofs.Common.{◌≡◌, ◌++◌, take, drop}
use Rattle.tt_core.specs.Cutting.{after, before}
use Rattle.tt_core.proofs.cutting.cut.Given as goal

-- no separator so far
abbrev pub invariant-loop-i : goal.invariant-loop-i
invariant-loop-i l = record {
  front : take l.i l.text ++ before l.separator (drop l.i l.text) ≡ before l.separator l.text;
  rest : after l.separator (drop l.i l.text) ≡ after l.separator l.text;
}
