use Rattle.std.proofs.lemmas.Result.{IfOk-weaker}
use Rattle.tt_scan_dropouts.proofs.Inked.{own_rows}
use Rattle.tt_scan_dropouts.proofs.bitmap.tape_for.Goals as goal

pub returns-else-has_rows-clause-rows : goal.returns-else-has_rows-clause-rows
returns-else-has_rows-clause-rows c =
    IfOk-weaker c.tape_of.result _ _ (λ t is. rw is (own_rows c.args.window)) c.tape_of.ensures
