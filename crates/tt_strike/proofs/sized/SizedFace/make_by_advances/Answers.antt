use Rattle.std.proofs.Common.{◌∙◌}
use Rattle.std.proofs.lemmas.Result.{err_from_is_err_and}
use Rattle.tt_line.specs.Layout.{text_glyphs}
use Rattle.tt_line.specs.Outcome.{placement_of}
use Rattle.tt_strike.specs.Strikes.{job_by}
use Rattle.tt_strike.proofs.Stopped.{laid_stops, no_job_told, shapes_stop}
use Rattle.tt_strike.proofs.Telling.{both_sound, made_tells, units_tell}
use Rattle.tt_strike.proofs.Textless.{cost_textless, made_textless, shapes_textless}
use Rattle.tt_strike.proofs.sized.SizedFace.make_by_advances.Goals as goal

pub returns-in_err-laid-clause-stops : goal.returns-in_err-laid-clause-stops
returns-in_err-laid-clause-stops c =
    let p = err_from_is_err_and c.from_residual.result c.from_residual.ensures.1 in
    rw (p.1, p.2) (laid_stops c.args.self.now.face (job_by c.args.self.now c.args.text.now c.args.margin)
    c.in_err-laid.field-0.0 c.in_err-laid.ensures.exact)

pub returns-in_err-laid-clause-defects : goal.returns-in_err-laid-clause-defects
returns-in_err-laid-clause-defects c =
    let p = err_from_is_err_and c.from_residual.result c.from_residual.ensures.1 in
    let z = c.args.self.now in
    rw (p.1, p.2) (units_tell z.face (job_by z c.args.text.now c.args.margin) (text_glyphs z.face.cmap c.args.text.now) c.in_err-laid.field-0.0
    c.requires.unbounded c.in_err-laid.ensures.defects)

pub returns-in_err-laid-clause-job : goal.returns-in_err-laid-clause-job
returns-in_err-laid-clause-job c =
    let p = err_from_is_err_and c.from_residual.result c.from_residual.ensures.1 in
    rw (p.1, p.2) c.in_err-laid.ensures.job

pub returns-in_err-glyphs-clause-stops : goal.returns-in_err-glyphs-clause-stops
returns-in_err-glyphs-clause-stops c =
    let z = c.args.self.now in
    let l = placement_of c.in_ok-laid.laid.line in
    let p = err_from_is_err_and c.from_residual-in_err-glyphs.result c.from_residual-in_err-glyphs.ensures.1 in
    rw (p.1, p.2) (shapes_stop z.face (job_by z c.args.text.now c.args.margin) l c.in_err-glyphs.field-0.0
    c.in_ok-laid.ensures.exact (rw (c.lay_out.ensures.same, ← shapes_textless z c.args.text.now c.args.margin l) at c.in_err-glyphs.ensures.stops))

pub returns-in_err-glyphs-clause-defects : goal.returns-in_err-glyphs-clause-defects
returns-in_err-glyphs-clause-defects c =
    let p = err_from_is_err_and c.from_residual-in_err-glyphs.result c.from_residual-in_err-glyphs.ensures.1 in
    let z = c.args.self.now in
    rw (p.1, p.2) (made_tells z.face (job_by z c.args.text.now c.args.margin) (text_glyphs z.face.cmap c.args.text.now) c.in_err-glyphs.field-0.0
    (rw (← c.in_ok-laid.ensures.glyphs) (rw (c.lay_out.ensures.same, c.in_ok-laid.ensures.margin) at c.in_err-glyphs.ensures.defects)))

pub returns-in_err-glyphs-clause-job : goal.returns-in_err-glyphs-clause-job
returns-in_err-glyphs-clause-job c =
    let p = err_from_is_err_and c.from_residual-in_err-glyphs.result c.from_residual-in_err-glyphs.ensures.1 in
    rw (p.1, p.2) (no_job_told _ c.in_err-glyphs.field-0.0 c.in_err-glyphs.ensures.job)

pub returns-clause-made : goal.returns-clause-made
returns-clause-made c =
    let z = c.args.self.now in
    let l = placement_of c.in_ok-laid.laid.line in
    let made = rw (c.lay_out.ensures.same, c.in_ok-laid.ensures.margin) at c.in_ok-glyphs.ensures.made in
    let cost = rw (c.lay_out.ensures.same, c.in_ok-laid.ensures.margin) at c.in_ok-glyphs.ensures.cost in
    record {
      laid = c.in_ok-laid.ensures.exact;
      glyphs = c.in_ok-laid.ensures.glyphs;
      made = made_textless z c.args.text.now c.args.margin l made;
      known = c.in_ok-laid.ensures.known;
      cost = cost_textless z c.args.text.now c.args.margin l ∙ cost;
    }

pub returns-clause-defects : goal.returns-clause-defects
returns-clause-defects c =
    let z = c.args.self.now in
    both_sound z.face (job_by z c.args.text.now c.args.margin) (text_glyphs z.face.cmap c.args.text.now)
    (rw (← c.in_ok-laid.ensures.glyphs) (rw c.lay_out.ensures.same at c.in_ok-glyphs.ensures.defects)) c.in_ok-laid.ensures.defects

pub tested_glyphs-requires-clause-known : goal.tested_glyphs-requires-clause-known
tested_glyphs-requires-clause-known c = rw c.lay_out.ensures.same c.in_ok-laid.ensures.known

pub tested_glyphs-requires-clause-cache : goal.tested_glyphs-requires-clause-cache
tested_glyphs-requires-clause-cache c = rw c.lay_out.ensures.same c.requires.cache

pub tested_glyphs-requires-clause-unbounded : goal.tested_glyphs-requires-clause-unbounded
tested_glyphs-requires-clause-unbounded c = rw c.lay_out.ensures.same c.requires.unbounded

pub returns-in_err-glyphs-clause-cache : goal.returns-in_err-glyphs-clause-cache
returns-in_err-glyphs-clause-cache c = rw c.lay_out.ensures.same at c.tested_glyphs.ensures.cache

pub returns-clause-cache : goal.returns-clause-cache
returns-clause-cache c = rw c.lay_out.ensures.same at c.tested_glyphs.ensures.cache
