use Rattle.std.proofs.Common.{arith, refl, rules}
use Rattle.tt_face.specs.Files.{IsFaceDefectBy}
use Rattle.tt_c_calls.specs.Asked.{face_reading}
use Rattle.tt_c_calls.specs.Fonts.{face_wanted}
use Rattle.tt_c_calls.proofs.Answered.{fails, serves, stands, tells}
use Rattle.tt_c_calls.proofs.opening.open.Goals as goal

pub returns-in-Err : goal.returns-in-Err
returns-in-Err c = rw c.answer_of.ensures (record {
  done = λ h. absurd (fails c.in-Err.fault h);
  refused = λ _. tells (face_wanted (face_reading c.args.face) c.args.font.now) c.in-Err.fault (rw c.face_reading.ensures at c.in-Err.ensures.exact);
  memory = serves c.in-Err.fault c.in-Err.ensures.memory;
  kept = λ _. refl;
  stands = stands (IsFaceDefectBy c.args.font.now (face_reading c.args.face)) c.in-Err.fault (rw c.face_reading.ensures at c.in-Err.ensures.defects);
})

pub returns : goal.returns
returns c =
    let read = rw c.face_reading.ensures at c.in-Ok.ensures.exact in
    rw c.sized.ensures (record {
      done = λ _. (rw read (search rules), refl);
      refused = λ h. absurd (h refl);
      memory = λ h. omega (arith, h);
      kept = λ h. absurd (h refl);
      stands = λ h. absurd (omega (arith, h));
    })
