use Rattle.std.proofs.Common.{◌≡◌, All}
use Rattle.tt_points_loops.specs.Series.{each_from_to}
use Rattle.tt_points_loops.specs.Shifting.{follow_but}
use Rattle.tt_points_zones.specs.Zones.{IsPoint}
use Rattle.tt_points_loops.proofs.shifting.lead.Given as goal

-- the remaining steps, applied to the present state, give the whole result
abbrev pub invariant-loop-i : goal.invariant-loop-i
invariant-loop-i l = record {
  same : each_from_to l.i l.fn.range.past (follow_but l.by.but l.by.touch l.state l.by.reference) 0 l.points
      ≡ each_from_to l.fn.range.first l.fn.range.past (follow_but l.by.but l.by.touch l.state l.by.reference) 0 l.fn.points;
  valid : All IsPoint l.points;
}
