use Rattle.std.proofs.Common.{arith, refl}
use Rattle.tt_c_calls.specs.Layouts.{layout_wanted}
use Rattle.tt_c_calls.proofs.Answered.{fails, serves, stands, tells}
use Rattle.tt_c_calls.proofs.laying_out.layout.Goals as goal

pub returns-in-Ok : goal.returns-in-Ok
returns-in-Ok c = rw c.sized.ensures (record {
  done = λ h. (c.in-Ok.layout, c.in-Ok.ensures.exact, c.layout_of.ensures, refl);
  refused = λ h. absurd (h refl);
  memory = λ _ _ h. omega (arith, h);
  kept = λ h. absurd (h refl);
  stands = λ h. absurd (omega (arith, h));
})

pub returns-in-Err : goal.returns-in-Err
returns-in-Err c =
    let fault = c.in-Err.fault in
    rw c.answer_of.ensures (record {
      done = λ h. absurd (fails fault h);
      refused = λ _. tells (layout_wanted c.args.request.now.job.now c.args.request.now.text.now c.args.request.now.font.now) fault c.in-Err.ensures.exact;
      memory = λ other none. serves fault (c.in-Err.ensures.memory other none);
      kept = λ _. refl;
      stands = stands _ fault c.in-Err.ensures.defects;
    })
