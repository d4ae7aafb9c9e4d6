use Rattle.std.proofs.Common.{◌≡◌, arith, inl, inr, length, refl}
use Rattle.tt_core.specs.declared.fault.JobFault.TheVariants as fault
use Rattle.tt_c_calls.specs.declared.fault.CallFault.TheVariants as call
use Rattle.tt_c_calls.proofs.LinesStopped.{for_kept, kept_alone}
use Rattle.tt_c_calls.proofs.RoomAsked.{all_counted, line_has_none, line_told, refused_itself, room_on, wrong_ends}
use Rattle.tt_c_calls.proofs.room_asking.room_by.Goals as goal

pub line_need-requires : goal.line_need-requires
line_need-requires g c = for_kept _ _ c.args.strike.now c.loop-i.strike c.loop-i.invariant.strike c.requires

pub loop-i-preserved : goal.loop-i-preserved
loop-i-preserved g c =
    let so_far = c.loop-i.invariant in
    let need = c.in-Ok.ensures in
    record {
      strike = kept_alone c.args.strike.now c.loop-i.strike c.line_need.new.strike so_far.strike need.strike;
      room = room_on _ _ _ _ _ _ _ _ _ _ _ _ so_far.room
          (omega (arith, c.lines_budget-budget.ensures, c.if-taken-budget.false)) (omega (arith, c.from-taken.ensures))
          (omega (arith, c.from-taken.ensures)) c.saturating_add-used.ensures c.loop-i-test.true (omega arith)
          (omega arith) need.exact need.cost;
    }

pub returns-then-end-from : goal.returns-then-end-from
returns-then-end-from g c =
    let so_far = c.loop-i.invariant.room in
    let wrong = wrong_ends c.args.texts.now c.args.ends.now c.loop-i.from c.loop-i.i so_far.start c.then-end-from.either in
    rw (c.stopped.ensures, c.answer_of.ensures)
    (line_has_none _ _ _ _ _ _ _ _ call.LineEnds c.loop-i-test.true so_far (inl (refl, wrong)) tt)

pub returns-then-taken-budget : goal.returns-then-taken-budget
returns-then-taken-budget g c =
    let so_far = c.loop-i.invariant.room in
    rw (c.stopped-then-taken-budget.ensures, c.answer_of-then-taken-budget.ensures)
    (line_has_none _ _ _ _ _ _ _ _ (call.Job fault.WorkLarge) c.loop-i-test.true so_far
    (inr (inl (
      (omega (arith, so_far.start), omega arith),
      refl,
      omega (
        arith,
        so_far.takes,
        c.lines_budget-budget.ensures,
        c.if-taken-budget.true,
      ),
    ))) tt)

pub returns-in-Err : goal.returns-in-Err
returns-in-Err g c =
    let so_far = c.loop-i.invariant.room in
    let need = c.in-Err.ensures in
    let texts = c.args.texts.now in
    let ends = c.args.ends.now in
    let itself = refused_itself c.args.job.now g.font texts ends c.loop-i.from c.loop-i.i c.in-Err.fault so_far.start
    (omega arith) (omega arith)
    (omega (arith, so_far.takes, c.lines_budget-budget.ensures, c.if-taken-budget.false)) need.exact in
    rw (c.stopped-in-Err.ensures, c.answer_of-in-Err.ensures)
    (line_has_none _ _ _ _ _ _ _ _ c.in-Err.fault c.loop-i-test.true so_far itself
    (line_told c.args.job.now g.font texts ends c.loop-i.from c.loop-i.i c.in-Err.fault so_far.start need.defects))

pub returns : goal.returns
returns g c =
    let so_far = c.loop-i.invariant.room in
    let all : c.loop-i.i ≡ length c.args.ends.now = omega arith in
    rw c.sized.ensures (all_counted _ _ _ _ _ _ _ _ _ all c.requires.face so_far)
