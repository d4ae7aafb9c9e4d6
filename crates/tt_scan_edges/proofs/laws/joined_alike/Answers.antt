use Rattle.tt_scan_edges.proofs.JoinedKept.{blacken_alike, cross_alike, joined_fewer, meet_alike}
use Rattle.tt_scan_edges.proofs.Joins.{none_between}
use Rattle.tt_scan_edges.proofs.laws.joined_alike.Goals as goal

pub returns-clause-none : goal.returns-clause-none
returns-clause-none c = none_between

pub returns-clause-black : goal.returns-clause-black
returns-clause-black c = blacken_alike

pub returns-clause-met : goal.returns-clause-met
returns-clause-met c = meet_alike

pub returns-clause-crossed : goal.returns-clause-crossed
returns-clause-crossed c = cross_alike

pub returns-clause-fewer : goal.returns-clause-fewer
returns-clause-fewer c = joined_fewer
