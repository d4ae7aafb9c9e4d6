use Rattle.std.proofs.Common.{◌≡◌, ◌≤◌, length}
use Rattle.tt_bdf.specs.Asked.{far_before, is_shown, listed_below}
use Rattle.tt_core.specs.Limits.{text_limit}
use Rattle.tt_bdf.proofs.asked.listed.Given as goal

-- the code points found so far, and how far the ranges go that begin before the next
abbrev pub invariant-loop-code : goal.invariant-loop-code
invariant-loop-code l = record {
  far : l.far ≡ far_before l.ranges l.code;
  found : l.found.items ≡ listed_below (is_shown l.cmap) l.ranges l.code;
  few : length l.found.items ≤ text_limit;
}
