use Rattle.tt_points_iup.proofs.ByNumber.{many, touched_point, between_points, none_touched_at}
use Rattle.tt_points_iup.proofs.Nearest.{has_neighbours}
use Rattle.tt_points_iup.proofs.laws.point_by_point.Goals as goal

pub returns-clause-many : goal.returns-clause-many
returns-clause-many c = many

pub returns-clause-touched : goal.returns-clause-touched
returns-clause-touched c = touched_point

pub returns-clause-there : goal.returns-clause-there
returns-clause-there c = λ along. has_neighbours along.axis

pub returns-clause-between : goal.returns-clause-between
returns-clause-between c = between_points

pub returns-clause-alone : goal.returns-clause-alone
returns-clause-alone c = none_touched_at
