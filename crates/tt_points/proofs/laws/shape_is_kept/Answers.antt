use Rattle.tt_points.specs.Shapes.{shape_kept}
use Rattle.tt_points.proofs.laws.shape_is_kept.Goals as goal

pub returns : goal.returns
returns c = shape_kept
