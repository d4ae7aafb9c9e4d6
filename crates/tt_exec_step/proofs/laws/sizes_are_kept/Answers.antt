use Rattle.tt_exec_step.proofs.Sizes.{shape_kept, sizes_kept}
use Rattle.tt_exec_step.proofs.laws.sizes_are_kept.Goals as goal

pub returns-clause-shape : goal.returns-clause-shape
returns-clause-shape c = shape_kept c.sizes_are_kept.ensures c.sizes_are_kept-2.ensures

pub returns-clause-sizes : goal.returns-clause-sizes
returns-clause-sizes c = sizes_kept c.sizes_are_kept.ensures c.sizes_are_kept-2.ensures
