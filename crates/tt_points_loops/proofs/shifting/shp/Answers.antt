use Rattle.std.proofs.Common.{◌≡◌, Result, Ok, Err, sym}
use Rattle.tt_core.specs.Outcomes.{Gives}
use Rattle.tt_points_loops.proofs.shifting.shp.Goals as goal

same_result : {X E : Type 0} (r wanted : Result X E) → Gives (λ x. x) r wanted → r ≡ wanted
same_result (Ok x) wanted is = sym is
same_result (Err e) wanted is = sym is

pub returns : goal.returns
returns c =
    let before = same_result c.reference-before.result _ c.reference-before.ensures.exact in
    record { exact = rw before at c.in_turn.ensures.exact }
