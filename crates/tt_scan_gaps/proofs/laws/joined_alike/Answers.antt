use Rattle.tt_scan_gaps.proofs.JoinedLines.{cross_alike, mark_alike, reach_alike, touch_alike, turn_alike}
use Rattle.tt_scan_gaps.proofs.laws.joined_alike.Goals as goal

pub returns-clause-crossings : goal.returns-clause-crossings
returns-clause-crossings c = cross_alike

pub returns-clause-touches : goal.returns-clause-touches
returns-clause-touches c = touch_alike

pub returns-clause-turned : goal.returns-clause-turned
returns-clause-turned c = turn_alike

pub returns-clause-marks : goal.returns-clause-marks
returns-clause-marks c = mark_alike

pub returns-clause-reach : goal.returns-clause-reach
returns-clause-reach c = reach_alike
