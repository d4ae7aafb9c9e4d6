use Rattle.std.proofs.Common.{arith, refl, rules}
use Rattle.tt_core.specs.Collections.{IsOffsetDefect}
use Rattle.tt_core.specs.declared.collection.Reading.TheVariants as reading
use Rattle.tt_c_calls.specs.Fonts.{count_wanted}
use Rattle.tt_c_calls.proofs.Answered.{fails, serves, stands, tells}
use Rattle.tt_c_calls.proofs.opening.faces.Goals as goal

pub returns-in-Err : goal.returns-in-Err
returns-in-Err c = rw c.answer_of.ensures (record {
  done = λ h. absurd (fails c.in-Err.fault h);
  refused = λ _. tells (count_wanted c.args.font.now) c.in-Err.fault c.in-Err.ensures.exact;
  memory = serves c.in-Err.fault c.in-Err.ensures.memory;
  stands = stands (IsOffsetDefect c.args.font.now (reading.Wide 0)) c.in-Err.fault c.in-Err.ensures.defects;
})

pub returns : goal.returns
returns c = rw c.sized.ensures (record {
  done = λ _. search rules;
  refused = λ h. absurd (h refl);
  memory = λ h. omega (arith, h);
  stands = λ h. absurd (omega (arith, h));
})
