use Rattle.std.proofs.Common.{refl}
use Rattle.tt_points_zones.proofs.motion.Motion.of.Goals as goal

pub returns : goal.returns
returns c = refl
