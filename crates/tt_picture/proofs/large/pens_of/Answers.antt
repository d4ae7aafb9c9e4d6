use Rattle.std.proofs.Common.{◌≡◌, ◌==◌, true, false, get_or, arith}
use Rattle.std.proofs.lemmas.Bool.Decides.{nat_tests}
use Rattle.std.proofs.lemmas.List.{get_or_default}
use Rattle.tt_picture.proofs.Pens.{pen_passed, pen_taken}
use Rattle.tt_picture.proofs.large.pens_of.Goals.{then-placed-number+in_ok-push, else-placed-number}
use Rattle.tt_picture.proofs.large.pens_of.Goals as goal

pub loop-placed-preserved : goal.loop-placed-preserved
loop-placed-preserved c =
    let line = c.args.line.now in
    let n = c.args.number in
    let i = c.loop-placed.placed-index in
    let p = get_or line i (0, 0) in
    let below = c.loop-placed-test.true in
    let here : get_or line i p ≡ p = get_or_default line i p (0, 0) below in
    let so_far = c.loop-placed.pens.items in
    elim c.if-placed-number.branch [
      | then-placed-number+in_ok-push w ↦
          let same : (p.0 == n) ≡ true = grind (arith, nat_tests, w.if-placed-number.true) in
          rw (w.pens-is, w.in_ok-push.ensures.items) (pen_taken n line i p so_far below here same c.loop-placed.invariant)
      | else-placed-number w ↦
          let other : (p.0 == n) ≡ false = grind (arith, nat_tests, w.if-placed-number.false) in
          rw w.pens-is (pen_passed n line i p so_far below here other c.loop-placed.invariant)
    ]
