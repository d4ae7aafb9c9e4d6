use Rattle.std.proofs.Common.{◌≡◌, ℕ, List, inl, subst}
use Rattle.tt_c_calls.specs.LineRooms.{TellsRoom}
use Rattle.tt_c_calls.specs.declared.fault.CallFault.TheVariants as call
use Rattle.tt_c_calls.specs.Refusals.{call_font_fault}
use Rattle.tt_c_calls.proofs.LinesStopped.{face_refused, file_is, fit_defect, fit_refused, job_refused, of_setting, strike_for, strike_refused}
use Rattle.tt_c_calls.proofs.RoomAsked.{room_refused}
use Rattle.tt_c_calls.proofs.StrikeLines.{if_some_more}
use Rattle.tt_c_calls.proofs.room_asking.lines_room.Goals as goal

pub returns-in-Err : goal.returns-in-Err
returns-in-Err c =
    let j = c.args.job.now in
    let font = c.args.font.now in
    let fault = c.in-Err.fault in
    rw c.answer_of.ensures (room_refused j font _ _ fault (fit_refused j font fault c.in-Err.ensures.exact)
    (fit_defect j _ fault c.in-Err.ensures.exact))

pub returns-in-Err-test_job : goal.returns-in-Err-test_job
returns-in-Err-test_job c =
    let j = c.args.job.now in
    let font = c.args.font.now in
    let fault = c.in-Err-test_job.fault in
    let fails = of_setting j c.in-Ok.fit _ _ _ _ c.job.ensures.exact c.plain-setting.ensures c.in-Err-test_job.ensures.exact in
    let is = job_refused j font c.in-Ok.fit fault c.in-Ok.ensures.exact fails in
    rw c.answer_of-in-Err-test_job.ensures (room_refused j font _ _ (call.Job fault) is tt)

pub returns-in-Err-job_face : goal.returns-in-Err-job_face
returns-in-Err-job_face c =
    let j = c.args.job.now in
    let font = c.args.font.now in
    let fault = c.in-Err-job_face.fault in
    let passed = of_setting j c.in-Ok.fit _ _ _ _ c.job.ensures.exact c.plain-setting.ensures c.in_default.ensures.exact in
    let is = face_refused j font c.in-Ok.fit fault c.in-Ok.ensures.exact passed
    c.in-Err-job_face.ensures.exact in
    rw c.answer_of-in-Err-job_face.ensures (room_refused j font _ _ fault is
    (if_some_more (call_font_fault fault) _ _ (λ f h. inl (rw c.in-Ok.ensures.exact h))
    c.in-Err-job_face.ensures.defects))

pub returns-in-Err-new : goal.returns-in-Err-new
returns-in-Err-new c =
    let j = c.args.job.now in
    let passed = of_setting j c.in-Ok.fit _ _ _ _ c.job.ensures.exact c.plain-setting.ensures c.in_default.ensures.exact in
    let memory = strike_refused j c.in-Ok.fit c.in-Err-new.fault passed c.in-Err-new.ensures.tested in
    rw (c.answer_of-in-Err-new.ensures, c.from.ensures, memory) (room_refused j c.args.font.now _ _ call.Memory tt tt)

pub room_by-requires : goal.room_by-requires
room_by-requires c =
    let passed = of_setting c.args.job.now c.in-Ok.fit _ _ _ _ c.job.ensures.exact c.plain-setting.ensures c.in_default.ensures.exact in
    strike_for c.args.job.now c.args.font.now c.in-Ok.fit c.in-Ok-job_face.face c.in-Ok-new.strike c.args.keep
    c.in-Ok.ensures.exact passed c.in-Ok-job_face.ensures.exact
    c.in-Ok-new.ensures.exact

pub returns : goal.returns
returns c =
    let font = c.args.font.now in
    let same : c.in-Ok-new.strike.face.directory.file ≡ font =
    rw c.in-Ok-new.ensures.exact (file_is c.args.job.now c.in-Ok.fit font c.in-Ok-job_face.face c.in-Ok-job_face.ensures.exact) in
    let Tells : List ℕ → Type 0 = λ file. TellsRoom c.args.job.now file c.args.texts.now.bytes.now
    c.args.texts.now.ends.now c.room_by.result in
    subst Tells same c.room_by.ensures
