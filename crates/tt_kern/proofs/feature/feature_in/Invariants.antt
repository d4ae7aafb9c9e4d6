use Rattle.std.proofs.Common.{◌≡◌, ◌+◌, ◌-◌, ◌*◌, ◌≤◌, Some}
use Rattle.tt_core.specs.Search.{first_from, first_below}
use Rattle.tt_kern.specs.Feature.{is_kern, feature_at, feature_in}
use Rattle.tt_kern.proofs.feature.feature_in.Given as goal

-- the first of all numbers is the first of the remaining numbers
abbrev pub invariant-loop-i : goal.invariant-loop-i
invariant-loop-i l = record {
  left : feature_at l.table l.language (first_from (is_kern l.table l.language) l.i (l.count - l.i)) ≡ feature_in l.table (Some l.language);
  few : l.count ≤ 256;
  first : first_from (is_kern l.table l.language) l.i (l.count - l.i) ≡ first_below l.count (is_kern l.table l.language);
  read : l.reads ≡ l.fn.reads + 3 + 2 * l.i;
}
