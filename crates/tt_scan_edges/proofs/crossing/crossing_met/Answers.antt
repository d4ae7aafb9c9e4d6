use Rattle.std.proofs.Common.{arith}
use Rattle.std.proofs.lemmas.Int.{ints}
use Rattle.tt_scan_edges.proofs.Crosses.{from_lower, to_upper, from_lower_turned, to_upper_turned, level_here}
use Rattle.tt_scan_edges.proofs.crossing.crossing_met.Goals as goal

pub rising-requires-clause-low : goal.rising-requires-clause-low
rising-requires-clause-low c = from_lower c.args.edge.ay c.args.edge.by c.args.at.y (omega (arith, ints)) c.requires.met

pub rising-requires-clause-high : goal.rising-requires-clause-high
rising-requires-clause-high c = to_upper c.args.edge.ay c.args.edge.by c.args.at.y (omega (arith, ints)) c.requires.met

pub rising-requires-then-edge-2-clause-low : goal.rising-requires-then-edge-2-clause-low
rising-requires-then-edge-2-clause-low c =
    rw c.reversed-edge.ensures (from_lower_turned c.args.edge.ay c.args.edge.by c.args.at.y (omega (arith, ints)) c.requires.met)

pub rising-requires-then-edge-2-clause-high : goal.rising-requires-then-edge-2-clause-high
rising-requires-then-edge-2-clause-high c =
    rw c.reversed-edge.ensures (to_upper_turned c.args.edge.ay c.args.edge.by c.args.at.y (omega (arith, ints)) c.requires.met)

pub flat-requires-clause-here : goal.flat-requires-clause-here
flat-requires-clause-here c = level_here c.args.edge.ay c.args.edge.by c.args.at.y (omega (arith, ints)) c.requires.met

pub returns-then-edge-2 : goal.returns-then-edge-2
returns-then-edge-2 c =
    c.turned_back.ensures c.args.edge c.args.at.frame.margin c.args.at.y (rw c.reversed-edge.ensures at c.rising-then-edge-2.ensures)
