use Rattle.tt_exec_points.proofs.Shapes.{sizes_kept}
use Rattle.tt_exec_points.proofs.laws.sizes_are_kept.Goals as goal

pub returns : goal.returns
returns c = sizes_kept c.shape_is_kept.ensures c.shape_is_kept-2.ensures c.shape_is_kept-3.ensures
