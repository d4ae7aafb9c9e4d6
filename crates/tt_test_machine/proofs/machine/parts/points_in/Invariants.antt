use Rattle.std.proofs.Common.{All}
use Rattle.tt_points_zones.specs.Zones.{IsPoint}
use Rattle.tt_test_machine.proofs.machine.parts.points_in.Given as goal

abbrev pub invariant-loop : goal.invariant-loop
invariant-loop l = All IsPoint l.points.items
