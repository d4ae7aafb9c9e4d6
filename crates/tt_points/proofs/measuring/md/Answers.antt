use Rattle.std.proofs.Common.{SFits, w32, refl, rules}
use Rattle.std.proofs.lemmas.Int.{to_z-of_z}
use Rattle.tt_points.specs.Measuring.{md}
use Rattle.tt_points.proofs.measuring.md.Goals as goal

pub returns-in-Current : goal.returns-in-Current
unfolding md
returns-in-Current c =
    let from : SFits w32 c.args.ends.from = search rules in
    let to : SFits w32 c.args.ends.to = search rules in
    let fits : SFits w32 c.stack_value.result = search rules in
    let a = simp to_z-of_z at c.in_ok-a.ensures.exact in
    let b = simp to_z-of_z at c.in_ok-b.ensures.exact in
    let far = rw c.of-motion.ensures at c.current_distance.ensures.exact in
    rw (to_z-of_z w32 c.stack_value.result fits, c.in-Current.is, a, b, c.stack_value.ensures, far) refl
