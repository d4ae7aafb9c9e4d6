use Rattle.std.proofs.Common.{◌≡◌, ◌≢◌, arith, refl}
use Rattle.tt_c_calls.proofs.Answered.{fails, stands, tells, wants_none}
use Rattle.tt_c_labels.specs.Labels.{label_wanted}
use Rattle.tt_c_labels.proofs.labelling.label.Goals as goal

pub returns-in-Err : goal.returns-in-Err
returns-in-Err c =
    let fault = c.in-Err.fault in
    let wanted = label_wanted c.args.request.now.job.now c.args.request.now.text.now c.args.request.now.font.now in
    rw c.answer_of.ensures (record {
      done = λ h. absurd (fails fault h);
      refused = λ _ _. tells wanted fault c.in-Err.ensures.exact;
      small = λ h. absurd (wants_none fault h);
      kept = λ _. refl;
      told_kept = λ _. refl;
      stands = stands _ fault c.in-Err.ensures.defects;
    })

pub returns : goal.returns
returns c =
    let own = c.write_label in
    let seven : own.result.status ≢ 0 → own.result.status ≡ 7 = λ other. rw (own.ensures.small other).1 refl in
    record {
      done = λ h. (c.in-Ok.drawn, c.in-Ok.ensures.label, own.ensures.done h);
      refused = λ other not_seven. absurd (not_seven (seven other));
      small = λ h. (c.in-Ok.drawn, c.in-Ok.ensures.label, own.ensures.small (λ zero. omega (arith, h, zero)));
      kept = own.ensures.kept;
      told_kept = own.ensures.told_kept;
      stands = λ one. absurd (omega (arith, one, seven (λ zero. omega (arith, one, zero))));
    }
