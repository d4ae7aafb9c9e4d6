use Rattle.tt_points_zones.proofs.Units.{turn_round, are_near}
use Rattle.tt_points_zones.proofs.laws.originals_turn_round.Goals as goal

pub returns-clause-turned : goal.returns-clause-turned
returns-clause-turned c = turn_round c.scales_keep_order.ensures.odd c.on_axes.ensures.x c.on_axes.ensures.y

pub returns-clause-near : goal.returns-clause-near
returns-clause-near c = are_near c.scales_keep_order.ensures.differences c.on_axes.ensures.x c.on_axes.ensures.y
