use Rattle.std.proofs.Common.{arith, refl}
use Rattle.tt_strike.specs.Measures.{measure_view}
use Rattle.tt_c_calls.specs.Measures.{measure_wanted}
use Rattle.tt_c_calls.proofs.Answered.{fails, stands, tells}
use Rattle.tt_c_calls.proofs.measuring.measure.Goals as goal

pub returns-in-Ok : goal.returns-in-Ok
returns-in-Ok c =
    let m = c.in-Ok.measure in
    rw c.sized.ensures (record {
      done = λ h. (measure_view m, m.report.unfitted.items, c.in-Ok.ensures.measure, c.measure_of.ensures, refl);
      refused = λ h. absurd (h refl);
      kept = λ h. absurd (h refl);
      stands = λ h. absurd (omega (arith, h));
    })

pub returns-in-Err : goal.returns-in-Err
returns-in-Err c =
    let fault = c.in-Err.fault in
    rw c.answer_of.ensures (record {
      done = λ h. absurd (fails fault h);
      refused = λ _. tells (measure_wanted c.args.request.now.job.now c.args.request.now.text.now c.args.request.now.font.now) fault c.in-Err.ensures.exact;
      kept = λ _. refl;
      stands = stands _ fault c.in-Err.ensures.defects;
    })
