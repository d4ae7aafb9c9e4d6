use Rattle.std.proofs.Common.{◌≡◌, ◌≢◌, ◌∙◌, ap, arith, length, refl}
use Rattle.tt_c_calls.specs.Layouts.{pens_wanted}
use Rattle.tt_c_calls.proofs.Answered.{fails, stands, tells, wants_none}
use Rattle.tt_c_calls.proofs.laying_out.pens.Goals as goal

pub returns-in-Ok : goal.returns-in-Ok
returns-in-Ok c =
    let pens = c.in-Ok.placed.pens.items in
    let own = rw (c.deref.ensures.value, c.deref-in-Ok.ensures.value, c.in-Ok.ensures.offsets) at c.write_pens.ensures in
    let count = c.in-Ok.ensures.count ∙ ap length c.in-Ok.ensures.offsets in
    let status = c.write_pens.result.status in
    let seven : status ≢ 0 → status ≡ 7 = λ other. rw (own.small other).1 refl in
    record {
      done = λ h. (pens, c.in-Ok.ensures.exact, count, own.done h);
      refused = λ other not_seven. absurd (not_seven (seven other));
      small = λ h. (pens, c.in-Ok.ensures.exact, own.small (λ zero. omega (arith, h, zero)));
      kept = own.kept;
      stands = λ one. absurd (omega (arith, one, seven (λ zero. omega (arith, one, zero))));
    }

pub returns-in-Err : goal.returns-in-Err
returns-in-Err c =
    let fault = c.in-Err.fault in
    rw c.answer_of.ensures (record {
      done = λ h. absurd (fails fault h);
      refused = λ _ _. tells (pens_wanted c.args.request.now.job.now c.args.request.now.text.now c.args.request.now.font.now) fault c.in-Err.ensures.exact;
      small = λ h. absurd (wants_none fault h);
      kept = λ _. refl;
      stands = stands _ fault c.in-Err.ensures.defects;
    })
