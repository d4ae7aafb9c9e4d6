use Rattle.std.proofs.Common.{◌≡◌, ◌-◌, ◌<◌}
use Rattle.tt_core.specs.Numbers.{unsigned_at}
use Rattle.tt_core.specs.Search.{first_from}
use Rattle.tt_variation_store.specs.Mvar.{height_tag, has_tag, record_of}
use Rattle.tt_variation_store.proofs.mvar.record_of.Given as goal

-- the search from here on is the search of all
abbrev pub invariant-loop-i : goal.invariant-loop-i
invariant-loop-i l = record {
  left : first_from (has_tag l.table l.fn.height) l.i (l.i-end - l.i) ≡ record_of l.table l.fn.height;
  tag : l.tag ≡ unsigned_at (height_tag l.fn.height) 0 4;
  few : l.i-end < 65536;
}
