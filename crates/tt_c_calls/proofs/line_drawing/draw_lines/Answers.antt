use Rattle.std.proofs.Common.{◌≡◌, ◌∙◌, ℕ, List, ap, arith, inl, inr, length, refl, subst}
use Rattle.tt_c_calls.specs.Lines.{DrawsLines, EndsWith, IsLinesDefect, IsStrikeFor, LineDefectStands, lines_wanted}
use Rattle.tt_c_calls.specs.declared.fault.CallFault.TheVariants as call
use Rattle.tt_c_calls.proofs.LinesStopped.{file_is, face_refused, fit_defect, fit_refused, job_first, job_refused, lines_defect_told, lines_opened, lines_refused, of_setting, opened_first, refused_first, room_names_none, strike_for, strike_refused}
use Rattle.tt_c_calls.specs.Refusals.{call_font_fault}
use Rattle.tt_c_calls.proofs.StrikeLines.{if_some_more}
use Rattle.tt_c_calls.proofs.line_drawing.draw_lines.Goals as goal
use Rattle.tt_strike.specs.Strikes.{Strike}
use Rattle.tt_strike_kept.specs.Kept.{bytes_in}

pub returns-in-Err-clause-draws : goal.returns-in-Err-clause-draws
returns-in-Err-clause-draws c =
    let j = c.args.job.now in
    let font = c.args.font.now in
    let fault = c.in-Err.fault in
    let is = fit_refused j font fault c.in-Err.ensures.exact in
    rw c.answer_of.ensures (record {
      order = refused_first (lines_wanted j font) _ _ fault c.in-Err.ensures.memory is;
      kept = λ _. (refl, refl);
      drawn = λ room. lines_refused j font _ _ _ _ fault is;
      stands = lines_defect_told _ fault (fit_defect j _ fault c.in-Err.ensures.exact);
    })

pub returns-in-Err-test_job-clause-draws : goal.returns-in-Err-test_job-clause-draws
returns-in-Err-test_job-clause-draws c =
    let j = c.args.job.now in
    let font = c.args.font.now in
    let fault = c.in-Err-test_job.fault in
    let fails = of_setting j c.in-Ok.fit _ _ _ _ c.job.ensures.exact c.plain-setting.ensures c.in-Err-test_job.ensures.exact in
    let is = job_refused j font c.in-Ok.fit fault c.in-Ok.ensures.exact fails in
    rw c.answer_of-in-Err-test_job.ensures (record {
      order = job_first (lines_wanted j font) _ _ fault is;
      kept = λ _. (refl, refl);
      drawn = λ room. lines_refused j font _ _ _ _ (call.Job fault) is;
      stands = lines_defect_told _ (call.Job fault) tt;
    })

pub returns-in-Err-job_face-clause-draws : goal.returns-in-Err-job_face-clause-draws
returns-in-Err-job_face-clause-draws c =
    let j = c.args.job.now in
    let font = c.args.font.now in
    let fault = c.in-Err-job_face.fault in
    let passed = of_setting j c.in-Ok.fit _ _ _ _ c.job.ensures.exact c.plain-setting.ensures c.in_default.ensures.exact in
    let is = face_refused j font c.in-Ok.fit fault c.in-Ok.ensures.exact passed
    c.in-Err-job_face.ensures.exact in
    rw c.answer_of-in-Err-job_face.ensures (record {
      order = refused_first (lines_wanted j font) _ _ fault c.in-Err-job_face.ensures.memory is;
      kept = λ _. (refl, refl);
      drawn = λ room. lines_refused j font _ _ _ _ fault is;
      stands = lines_defect_told _ fault
          (if_some_more (call_font_fault fault) _ _ (λ f h. inl (rw c.in-Ok.ensures.exact h))
          c.in-Err-job_face.ensures.defects);
    })

pub returns-then-lines-ends-clause-draws : goal.returns-then-lines-ends-clause-draws
returns-then-lines-ends-clause-draws c =
    let j = c.args.job.now in
    let font = c.args.font.now in
    let passed = of_setting j c.in-Ok.fit _ _ _ _ c.job.ensures.exact c.plain-setting.ensures c.in_default.ensures.exact in
    let face = c.in-Ok-job_face.face in
    let opened = lines_opened j font c.in-Ok.fit face c.in-Ok.ensures.exact passed
    c.in-Ok-job_face.ensures.exact in
    record {
      order = opened_first (lines_wanted j font) face _ _ _ opened (λ few. c.sized.ensures);
      kept = λ _. (refl, refl);
      drawn = λ room. absurd (omega (arith, room, c.if-lines-ends.true));
      stands = rw c.sized.ensures (room_names_none _ _ _);
    }

pub returns-in-Err-new-clause-draws : goal.returns-in-Err-new-clause-draws
returns-in-Err-new-clause-draws c =
    let j = c.args.job.now in
    let font = c.args.font.now in
    let passed = of_setting j c.in-Ok.fit _ _ _ _ c.job.ensures.exact c.plain-setting.ensures c.in_default.ensures.exact in
    let face = c.in-Ok-job_face.face in
    let opened = lines_opened j font c.in-Ok.fit face c.in-Ok.ensures.exact passed
    c.in-Ok-job_face.ensures.exact in
    let memory = strike_refused j c.in-Ok.fit c.in-Err-new.fault passed c.in-Err-new.ensures.tested in
    record {
      order = opened_first (lines_wanted j font) face _ _ _ opened (λ few. absurd (omega (arith, few, c.if-lines-ends.false)));
      kept = λ _. (refl, refl);
      drawn = λ room. rw (c.answer_of-in-Err-new.ensures, c.from.ensures, memory) (lines_refused j font _ _ _ _ call.Memory tt);
      stands = rw (c.answer_of-in-Err-new.ensures, c.from.ensures, memory) (lines_defect_told _ call.Memory tt);
    }

pub draw_by-answer-requires : goal.draw_by-answer-requires
draw_by-answer-requires c =
    let passed = of_setting c.args.job.now c.in-Ok.fit _ _ _ _ c.job.ensures.exact c.plain-setting.ensures c.in_default.ensures.exact in (
      strike_for c.args.job.now c.args.font.now c.in-Ok.fit c.in-Ok-job_face.face c.in-Ok-new.strike c.args.keep
          c.in-Ok.ensures.exact passed c.in-Ok-job_face.ensures.exact
          c.in-Ok-new.ensures.exact,
      c.if-lines-ends.false,
    )

pub returns-clause-draws : goal.returns-clause-draws
returns-clause-draws c =
    let j = c.args.job.now in
    let font = c.args.font.now in
    let texts = c.args.texts.now.bytes.now in
    let ends = c.args.texts.now.ends.now in
    let own = c.draw_by-answer in
    let passed = of_setting j c.in-Ok.fit _ _ _ _ c.job.ensures.exact c.plain-setting.ensures c.in_default.ensures.exact in
    let face = c.in-Ok-job_face.face in
    let opened = lines_opened j font c.in-Ok.fit face c.in-Ok.ensures.exact passed
    c.in-Ok-job_face.ensures.exact in
    let same : c.in-Ok-new.strike.face.directory.file ≡ font =
    rw c.in-Ok-new.ensures.exact (file_is j c.in-Ok.fit font face c.in-Ok-job_face.ensures.exact) in
    let Drawn : List ℕ → Type 0 = λ file. (used : ℕ)
    × DrawsLines j file texts ends c.args.rows.now own.new.rows c.args.lines.now own.new.lines used own.result.count
    × EndsWith j file texts ends (length c.args.rows.now) used own.result in
    let Stands : List ℕ → Type 0 = λ file. LineDefectStands (IsLinesDefect j file texts ends own.result.count) own.result in
    record {
      order = opened_first (lines_wanted j font) face _ _ _ opened (λ few. absurd (omega (arith, few, c.if-lines-ends.false)));
      kept = λ few. absurd (omega (arith, few, c.if-lines-ends.false));
      drawn = λ room. subst Drawn same own.ensures.drawn;
      stands = subst Stands same own.ensures.stands;
    }

pub returns-clause-most : goal.returns-clause-most
returns-clause-most c =
    let most = λ (s : Strike). s.most in
    omega (
      arith,
      c.kept_bytes.ensures.most,
      ap most c.draw_by-answer.ensures.strike,
      ap most c.in-Ok-new.ensures.exact,
    )

pub returns-clause-cached : goal.returns-clause-cached
returns-clause-cached c =
    let j = c.args.job.now in
    let font = c.args.font.now in
    let made = c.in-Ok-new.strike in
    let passed = of_setting j c.in-Ok.fit _ _ _ _ c.job.ensures.exact c.plain-setting.ensures c.in_default.ensures.exact in
    let face = c.in-Ok-job_face.face in
    let same : made.face.directory.file ≡ font = rw c.in-Ok-new.ensures.exact (file_is j c.in-Ok.fit font face c.in-Ok-job_face.ensures.exact) in
    let for : IsStrikeFor j made.face.directory.file made =
    strike_for j font c.in-Ok.fit face made c.args.keep c.in-Ok.ensures.exact passed
    c.in-Ok-job_face.ensures.exact c.in-Ok-new.ensures.exact in
    let Is : List ℕ → Type 0 = λ file. IsStrikeFor j file made in
    let is = subst Is same for in
    let most = λ (s : Strike). s.most in
    let after : Strike = record made { kept = c.draw_by-answer.new.strike.kept } in
    inr (
      after,
      record { face = is.face; fit = is.fit; size = is.size },
      ap most c.in-Ok-new.ensures.exact,
      c.kept_bytes.ensures.exact ∙ ap (λ (s : Strike). bytes_in s.kept) c.draw_by-answer.ensures.strike,
    )
