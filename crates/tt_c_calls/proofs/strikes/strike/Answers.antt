use Rattle.std.proofs.Common.{arith, refl}
use Rattle.tt_c_calls.specs.Strikes.{strike_wanted}
use Rattle.tt_c_calls.proofs.Answered.{fails, serves, stands, tells}
use Rattle.tt_c_calls.proofs.strikes.strike.Goals as goal

pub returns-in-Ok : goal.returns-in-Ok
returns-in-Ok c = rw c.sized.ensures (record {
  done = λ h. (c.in-Ok.ensures.exact, refl);
  refused = λ h. absurd (h refl);
  memory = λ h. omega (arith, h);
  kept = λ h. absurd (h refl);
  stands = λ h. absurd (omega (arith, h));
})

pub returns-in-Err : goal.returns-in-Err
returns-in-Err c =
    let fault = c.in-Err.fault in
    rw c.answer_of.ensures (record {
      done = λ h. absurd (fails fault h);
      refused = λ _. tells (strike_wanted c.args.job.now c.args.font.now) fault c.in-Err.ensures.exact;
      memory = serves fault c.in-Err.ensures.memory;
      kept = λ _. refl;
      stands = stands _ fault c.in-Err.ensures.defects;
    })
