use Rattle.tt_points_iup.proofs.Shapes.{shape_kept}
use Rattle.tt_points_iup.proofs.laws.shape_is_kept.Goals as goal

pub returns : goal.returns
returns c = shape_kept
