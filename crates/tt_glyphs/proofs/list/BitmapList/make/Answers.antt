use Rattle.std.proofs.Common.{◌≡◌, refl, Ok}
use Rattle.std.proofs.lemmas.Result.{err_from_is_err_and}
use Rattle.tt_fit.specs.Fitting.{Fitter}
use Rattle.tt_picture.proofs.Places.{ok_and}
use Rattle.tt_strike.specs.Defects.{IsSettingDefect}
use Rattle.tt_strike.specs.Makers.{job_at}
use Rattle.tt_glyphs.specs.Lists.{IsTriedList}
use Rattle.tt_glyphs.specs.Requests.{job_for, request_begun}
use Rattle.tt_glyphs.proofs.ListOutcomes.{drawing_tells, drawn_defects, drawn_gives, drawn_tells, stops, stops_tell}
use Rattle.tt_glyphs.proofs.list.BitmapList.make.Goals.{In_ok-tried}
use Rattle.tt_glyphs.proofs.list.BitmapList.make.Goals as goal

-- the list is tried by a fitter
begun : (c : In_ok-tried)
    → (s : Fitter) × (request_begun c.args.face.now (job_for c.args.glyphs.now c.args.ppem c.args.fit) ≡ Ok s)
    × IsTriedList c.args.face.now (job_for c.args.glyphs.now c.args.ppem c.args.fit) s c.in_ok-tried.tried
begun c =
    let a = job_for c.args.glyphs.now c.args.ppem c.args.fit in
    ok_and (request_begun c.args.face.now a) (λ s. IsTriedList c.args.face.now a s c.in_ok-tried.tried) c.in_ok-tried.ensures.tried

pub returns-in_err-tried-clause-exact : goal.returns-in_err-tried-clause-exact
returns-in_err-tried-clause-exact c =
    let a = job_for c.args.glyphs.now c.args.ppem c.args.fit in
    let p = err_from_is_err_and c.from_residual.result c.from_residual.ensures.1 in
    rw (p.1, p.2) (stops c.args.face.now a c.in_err-tried.field-0.0 c.in_err-tried.ensures.stops)

pub returns-in_err-tried-clause-defects : goal.returns-in_err-tried-clause-defects
returns-in_err-tried-clause-defects c =
    let p = err_from_is_err_and c.from_residual.result c.from_residual.ensures.1 in
    rw (p.1, p.2) c.in_err-tried.ensures.defects

pub returns-in_err-tried-clause-job : goal.returns-in_err-tried-clause-job
returns-in_err-tried-clause-job c =
    let a = job_for c.args.glyphs.now c.args.ppem c.args.fit in
    let p = err_from_is_err_and c.from_residual.result c.from_residual.ensures.1 in
    rw (p.1, p.2) (stops_tell c.args.face.now a c.in_err-tried.field-0.0 c.in_err-tried.ensures.stops)

pub drawn_from-requires : goal.drawn_from-requires
drawn_from-requires c =
    let a = job_for c.args.glyphs.now c.args.ppem c.args.fit in
    let is = begun (goal.at.drawn_from-requires c).In_ok-tried in
    record { tried = (c.args.face.now, a, is.0, is.2, refl) }

pub returns-clause-exact : goal.returns-clause-exact
returns-clause-exact c =
    let a = job_for c.args.glyphs.now c.args.ppem c.args.fit in
    let is = begun (goal.at.returns-clause-exact c).In_ok-tried in
    drawn_gives c.args.face.now a is.0 _ is.1 (c.drawn_from.ensures.exact c.args.face.now a is.0 is.2 refl)

pub returns-clause-defects : goal.returns-clause-defects
returns-clause-defects c =
    let is = begun (goal.at.returns-clause-defects c).In_ok-tried in
    drawing_tells (IsSettingDefect c.args.face.now (job_at c.args.ppem c.args.fit)) _ is.2.setting.sound c.drawn_from.ensures.font

pub returns-clause-job : goal.returns-clause-job
returns-clause-job c =
    let a = job_for c.args.glyphs.now c.args.ppem c.args.fit in
    let is = begun (goal.at.returns-clause-job c).In_ok-tried in
    drawn_tells c.args.face.now a is.0 _ is.1 (c.drawn_from.ensures.exact c.args.face.now a is.0 is.2 refl)

pub returns-clause-told : goal.returns-clause-told
returns-clause-told c =
    let a = job_for c.args.glyphs.now c.args.ppem c.args.fit in
    let is = begun (goal.at.returns-clause-told c).In_ok-tried in
    drawn_defects c.args.face.now a is.0 _ is.2.setting.exact (c.drawn_from.ensures.exact c.args.face.now a is.0 is.2 refl)
