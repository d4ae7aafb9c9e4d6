use Rattle.std.proofs.Common.{◌≡◌, ◌-◌}
use Rattle.tt_cmap.specs.WideChoice.{choice_at, first_choice, first_some}
use Rattle.tt_cmap.proofs.records.Records.first_choice.Given as goal

-- the first choice of all records is that of the remaining records
abbrev pub invariant-loop-i : goal.invariant-loop-i
invariant-loop-i l = first_some (choice_at l.encoding l.self) l.i (l.i-end - l.i) ≡ first_choice l.encoding l.self
