use Rattle.std.proofs.Common.{◌≡◌, ◌≤◌, length}
use Rattle.tt_bdf.specs.Style.{end_within}
use Rattle.tt_bdf.proofs.style.end_within.Given as goal

-- blanks behind the end
abbrev pub invariant-loop-end : goal.invariant-loop-end
invariant-loop-end l = record {
  end : end_within l.name l.end ≡ end_within l.name (length l.name);
  within : l.end ≤ length l.name;
}

abbrev pub decreases-loop-end : goal.decreases-loop-end
decreases-loop-end l = l.end
