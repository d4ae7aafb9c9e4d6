use Rattle.std.proofs.Common.{◌≡◌, length, All}
use Rattle.tt_core.proofs.Pieces.{behind}
use Rattle.tt_core.specs.Cutting.{all_read, pieces}
use Rattle.tt_bdf.specs.Ranges.{IsCodeRange, range_of}
use Rattle.tt_bdf.proofs.range.read_ranges.Given as goal

-- the ranges so far, and those of the rest, are all
abbrev pub invariant-loop-range : goal.invariant-loop-range
invariant-loop-range l = record {
  all : behind l.ranges.items (all_read range_of (pieces 44 l.rest)) ≡ all_read range_of (pieces 44 l.text);
  codes : All IsCodeRange l.ranges.items;
}

abbrev pub decreases-loop-range : goal.decreases-loop-range
decreases-loop-range l = length l.rest
