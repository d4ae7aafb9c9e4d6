use Rattle.std.proofs.Common.{◌≡◌, ◌+◌, ◌-◌, ◌≤◌}
use Rattle.tt_core.specs.Search.{first_from, first_below}
use Rattle.tt_kern.specs.Feature.{has_tag, script_at, script_with}
use Rattle.tt_kern.proofs.feature.script_with.Given as goal

-- the first of all records is the first of the remaining records
abbrev pub invariant-loop-i : goal.invariant-loop-i
invariant-loop-i l = record {
  left : script_at l.table l.list (first_from (has_tag l.table l.list l.tag) l.i (l.count - l.i)) ≡ script_with l.table l.list l.tag;
  few : l.count ≤ 256;
  first : first_from (has_tag l.table l.list l.tag) l.i (l.count - l.i) ≡ first_below l.count (has_tag l.table l.list l.tag);
  read : l.reads ≡ l.fn.reads + 1 + l.i;
}
