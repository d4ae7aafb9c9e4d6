use Rattle.std.proofs.Common.{refl}
use Rattle.std.proofs.lemmas.Result.{err_from_is_err_and}
use Rattle.tt_face.specs.Programs.{program_tables}
use Rattle.tt_strike.specs.Makers.{job_at}
use Rattle.tt_strike.specs.Picture.{setting}
use Rattle.tt_strike.proofs.Setting.{unbounded}
use Rattle.tt_strike.proofs.Telling.{failed_by, made_by, preparing_tells, no_setting_defect}
use Rattle.tt_strike.proofs.source.FitterSource.open.Goals as goal

pub returns-in_err-new-clause-defects : goal.returns-in_err-new-clause-defects
returns-in_err-new-clause-defects c =
    let p = err_from_is_err_and c.from_residual-in_err-new.result c.from_residual-in_err-new.ensures.1 in
    let programs = program_tables c.in_ok-programs.programs in
    let a = job_at c.args.self.now.ppem c.args.self.now.fit in
    let fails = failed_by c.args.self.now.face.now.metrics c.in_ok-glyf.glyf programs c.args.self.now.face.now.instance a.ppem a.fit c.in_err-new.field-0.0
    (rw (c.metrics-metrics.ensures, c.instance.ensures) at c.in_err-new.ensures.exact) refl in
    rw (p.1, p.2) (preparing_tells c.args.self.now.face.now a c.in_ok-glyf.glyf programs
    c.in_ok-programs.ensures.exact c.in_err-new.field-0.0 fails)

pub returns-clause-defects : goal.returns-clause-defects
returns-clause-defects c =
    let programs = program_tables c.in_ok-programs.programs in
    let a = job_at c.args.self.now.ppem c.args.self.now.fit in
    let made = made_by c.args.self.now.face.now.metrics c.in_ok-glyf.glyf programs c.args.self.now.face.now.instance a.ppem a.fit c.in_ok-new.field-0
    (rw (c.metrics-metrics.ensures, c.instance.ensures) at c.in_ok-new.ensures.exact) refl in
    no_setting_defect c.args.self.now.face.now a c.in_ok-glyf.glyf programs c.in_ok-new.field-0
    c.in_ok-glyf.ensures.sound c.in_ok-programs.ensures.sound c.in_ok-programs.ensures.exact made

pub returns-in_err-new-clause-exact : goal.returns-in_err-new-clause-exact
unfolding setting
returns-in_err-new-clause-exact c =
    let p = err_from_is_err_and c.from_residual-in_err-new.result c.from_residual-in_err-new.ensures.1 in
    let fails = failed_by c.args.self.now.face.now.metrics c.in_ok-glyf.glyf (program_tables c.in_ok-programs.programs) c.args.self.now.face.now.instance
    c.args.self.now.ppem c.args.self.now.fit c.in_err-new.field-0.0
    (rw (c.metrics-metrics.ensures, c.instance.ensures) at c.in_err-new.ensures.exact) refl in
    rw (p.1, p.2, c.in_ok-glyf.ensures.exact, c.in_ok-programs.ensures.exact) fails

pub returns-clause-exact : goal.returns-clause-exact
unfolding setting
returns-clause-exact c =
    let made = made_by c.args.self.now.face.now.metrics c.in_ok-glyf.glyf (program_tables c.in_ok-programs.programs) c.args.self.now.face.now.instance
    c.args.self.now.ppem c.args.self.now.fit c.in_ok-new.field-0
    (rw (c.metrics-metrics.ensures, c.instance.ensures) at c.in_ok-new.ensures.exact) refl in
    rw (c.in_ok-glyf.ensures.exact, c.in_ok-programs.ensures.exact) made

pub returns-clause-setting : goal.returns-clause-setting
unfolding setting
returns-clause-setting c =
    let face = c.args.self.now.face.now in
    let programs = program_tables c.in_ok-programs.programs in
    let a = job_at c.args.self.now.ppem c.args.self.now.fit in
    let made = made_by face.metrics c.in_ok-glyf.glyf programs c.args.self.now.face.now.instance a.ppem a.fit c.in_ok-new.field-0
    (rw (c.metrics-metrics.ensures, c.instance.ensures) at c.in_ok-new.ensures.exact) refl in
    record {
      exact = rw (c.in_ok-glyf.ensures.exact, c.in_ok-programs.ensures.exact) made;
      glyphs = rw c.in_ok-new.ensures.tables c.in_ok-glyf.ensures.glyphs;
      sound = no_setting_defect face a c.in_ok-glyf.glyf programs c.in_ok-new.field-0
          c.in_ok-glyf.ensures.sound c.in_ok-programs.ensures.sound c.in_ok-programs.ensures.exact made;
      unbounded = unbounded c.work_unfits.ensures.others face.metrics c.in_ok-glyf.glyf programs face.instance a.ppem a.fit
          c.in_ok-new.field-0 made;
    }
