use Rattle.tt_exec_step.proofs.Tables.{read-body}
use Rattle.tt_exec_step.proofs.function_table.body_at.Goals as goal

pub returns : goal.returns
returns c =
    read-body c.args.places.now c.args.bodies.now c.args.n c.index-bodies-place.result c.if-n-places.false
    c.if-place-eq0.false (c.requires c.args.n 0 c.if-n-places.false) c.index-bodies-place.is
