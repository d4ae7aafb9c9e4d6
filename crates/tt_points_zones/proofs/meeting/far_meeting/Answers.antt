use Rattle.std.proofs.Common.{rules}
use Rattle.tt_points_zones.specs.Meeting.{crossing, meeting}
use Rattle.tt_points_zones.proofs.meeting.far_meeting.Goals as goal

pub returns : goal.returns
unfolding meeting crossing
returns c = search rules
