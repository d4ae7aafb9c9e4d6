use Rattle.std.proofs.Common.{◌≡◌, ◌-◌, arith, inl, length, refl, set}
use Rattle.std.proofs.lemmas.List.{set-get_or}
use borrow.Rule.Slice.PartMut.{put_mid, put_same}
use Rattle.tt_c_calls.proofs.LinesDrawn.{budget_stops, drawn_on, line_stops}
use Rattle.tt_c_calls.proofs.LinesStopped.{for_kept, kept_alone}
use Rattle.tt_c_calls.proofs.line_drawing.draw_by.Goals as goal

pub draw_line-cost-requires : goal.draw_line-cost-requires
draw_line-cost-requires g c = for_kept _ _ c.args.strike.now c.loop-i.strike c.loop-i.invariant.strike c.requires.0

pub loop-i-preserved : goal.loop-i-preserved
loop-i-preserved g c =
    let so_far = c.loop-i.invariant in
    let own = c.draw_line-cost in
    record {
      strike = kept_alone c.args.strike.now c.loop-i.strike own.new.strike so_far.strike own.ensures.strike;
      drawn = drawn_on _ _ _ _ _ _ _ _ _ _ _ _ _ _ _ _ _ so_far.drawn
          (omega (arith, c.lines_budget-budget.ensures, c.if-taken-budget.false)) (omega (arith, c.from-taken.ensures))
          (omega (arith, c.from-taken.ensures)) c.loop-i-test.true
          (omega arith) (omega arith) (omega arith) (own.ensures.done c.if-answer-ne0.false) own.auto.room;
    }

pub returns-then-answer-ne0-clause-drawn : goal.returns-then-answer-ne0-clause-drawn
returns-then-answer-ne0-clause-drawn g c =
    let so_far = c.loop-i.invariant in
    let own = c.draw_line-cost in
    let room_kept = own.ensures.kept c.if-answer-ne0.true in
    let told_kept = own.ensures.told_kept c.if-answer-ne0.true in
    let rows : put_mid c.loop-i.used (length c.loop-i.rows - c.loop-i.used) c.loop-i.rows own.new.room ≡ c.loop-i.rows =
    rw room_kept (put_same c.loop-i.used (length c.loop-i.rows - c.loop-i.used) c.loop-i.rows) in
    let lines : set c.loop-i.lines c.loop-i.i own.new.told ≡ c.loop-i.lines =
    rw told_kept (set-get_or c.loop-i.lines c.loop-i.i _) in
    rw c.stopped-then-answer-ne0.ensures (
      c.loop-i.used,
      rw (rows, lines) so_far.drawn.so_far,
      line_stops _ _ _ _ _ _ _ _ _ _ c.loop-i-test.true c.if-answer-ne0.true so_far.drawn.start (omega arith)
          (omega arith) c.loop-i.auto.rows (own.ensures.stopped c.if-answer-ne0.true)
          (omega (arith, so_far.drawn.takes, c.lines_budget-budget.ensures, c.if-taken-budget.false)),
    )

pub returns-clause-drawn : goal.returns-clause-drawn
returns-clause-drawn g c =
    let so_far = c.loop-i.invariant.drawn.so_far in
    let all : c.loop-i.i ≡ length c.args.ends.now = omega arith in
    rw c.sized.ensures (c.loop-i.used, rw all at so_far, inl (c.args.strike.now.face, c.requires.0.face, refl))

pub returns-then-answer-ne0-clause-strike : goal.returns-then-answer-ne0-clause-strike
returns-then-answer-ne0-clause-strike g c =
    let own = c.draw_line-cost in
    kept_alone c.args.strike.now c.loop-i.strike own.new.strike c.loop-i.invariant.strike own.ensures.strike

pub returns-then-taken-budget-clause-drawn : goal.returns-then-taken-budget-clause-drawn
returns-then-taken-budget-clause-drawn g c =
    let so_far = c.loop-i.invariant.drawn in
    rw (c.stopped-then-taken-budget.ensures, c.answer_of-then-taken-budget.ensures) (
      c.loop-i.used,
      so_far.so_far,
      budget_stops _ _ _ _ _ _ _ _ c.loop-i-test.true so_far.start (omega arith) (omega arith) (omega (
        arith,
        so_far.takes,
        c.lines_budget-budget.ensures,
        c.if-taken-budget.true,
      )),
    )
