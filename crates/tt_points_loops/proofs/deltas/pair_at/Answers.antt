use Rattle.std.proofs.Common.{rules}
use Rattle.tt_points_loops.specs.Turns.{pair_at}
use Rattle.tt_points_loops.proofs.deltas.pair_at.Goals as goal

pub returns : goal.returns
returns c = rw (pair_at c.args.pairs.now c.args.i c.requires) (search rules)
