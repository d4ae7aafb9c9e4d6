use Rattle.std.proofs.Common.{◌∙◌, arith}
use Rattle.tt_picture.specs.Shapes.{crossings_in}
use Rattle.tt_strike.proofs.Limited.{count_over, count_within, unbounded_work}
use Rattle.tt_strike.proofs.work.test_crossings.Goals.{then-is_bounded, else-is_bounded}
use Rattle.tt_strike.proofs.work.test_crossings.Goals as goal

pub returns-then-count-most-clause-exact : goal.returns-then-count-most-clause-exact
returns-then-count-most-clause-exact c = λ maker shapes drawn made. elim c.if-is_bounded.branch [
  | then-is_bounded w ↦
      let bounded = rw c.is_bounded.ensures at w.if-is_bounded.true in
      count_over c.args.fit c.args.most (crossings_in shapes) c.if-is_bounded.count bounded
      (w.count-is ∙ w.crossings-count.ensures maker shapes drawn made) c.if-count-most.true
  | else-is_bounded w ↦ absurd (omega (arith, w.count-is, c.if-count-most.true))
]

pub returns-clause-exact : goal.returns-clause-exact
returns-clause-exact c = λ maker shapes drawn made. elim c.if-is_bounded.branch [
  | then-is_bounded w ↦
      let bounded = rw c.is_bounded.ensures at w.if-is_bounded.true in
      (count_within c.args.fit c.args.most (crossings_in shapes) c.if-is_bounded.count bounded
      (w.count-is ∙ w.crossings-count.ensures maker shapes drawn made) (omega (arith, c.if-count-most.false)) c.requires.most).0
  | else-is_bounded w ↦
      unbounded_work c.args.fit c.args.most (crossings_in shapes) (rw c.is_bounded.ensures at w.if-is_bounded.false)
]

pub returns-clause-count : goal.returns-clause-count
returns-clause-count c = λ maker shapes drawn made bounded. elim c.if-is_bounded.branch [
  | then-is_bounded w ↦
      (count_within c.args.fit c.args.most (crossings_in shapes) c.if-is_bounded.count bounded
      (w.count-is ∙ w.crossings-count.ensures maker shapes drawn made) (omega (arith, c.if-count-most.false)) c.requires.most).1
  | else-is_bounded w ↦
      let other = rw c.is_bounded.ensures at w.if-is_bounded.false in absurd cc
]
