use Rattle.std.proofs.Common.{◌≡◌, ◌∙◌, ℕ, List, ap, refl, sym, Ok}
use Rattle.std.proofs.lemmas.Result.{err_from_is_err_and}
use Rattle.tt_fit.specs.Fitting.{Fitter}
use Rattle.tt_picture.proofs.Places.{ok_and}
use Rattle.tt_fit.specs.outline.Outline.{Outline}
use Rattle.tt_metrics.specs.Metrics.{glyphs_of}
use Rattle.tt_picture.specs.Steps.{outlines_by}
use Rattle.tt_strike.specs.Picture.{outlines_in}
use Rattle.tt_strike.specs.Work.{line_fitter}
use Rattle.tt_glyphs.specs.Defects.{IsListDefect}
use Rattle.tt_glyphs.specs.Entries.{known}
use Rattle.tt_glyphs.specs.Lists.{IsTriedList}
use Rattle.tt_glyphs.specs.Requests.{job_for, request_begun}
use Rattle.tt_glyphs.proofs.ListFacts.{list_defect, no_list_defect}
use Rattle.tt_glyphs.proofs.ListOutcomes.{drawing_tells, drawn_sound, drawn_tells, metrics_of, refused_gives, sound_gives, stops_defect, stops_sound, stops_tell}
use Rattle.tt_glyphs.proofs.list.BitmapList.make_sound.Goals.{In_ok-test_outlines, In_ok-tried}
use Rattle.tt_glyphs.proofs.list.BitmapList.make_sound.Goals as goal

-- the list is tried by a fitter
begun : (c : In_ok-tried)
    → (s : Fitter) × (request_begun c.args.face.now (job_for c.args.glyphs.now c.args.ppem c.args.fit) ≡ Ok s)
    × IsTriedList c.args.face.now (job_for c.args.glyphs.now c.args.ppem c.args.fit) s c.in_ok-tried.tried
begun c =
    let a = job_for c.args.glyphs.now c.args.ppem c.args.fit in
    ok_and (request_begun c.args.face.now a) (λ s. IsTriedList c.args.face.now a s c.in_ok-tried.tried) c.in_ok-tried.ensures.tried

made_of : (maker : ℕ → Fitter) (ns gs : List ℕ) → ns ≡ gs → (os : List Outline) × (outlines_by maker ns ≡ Ok os)
    → (os : List Outline) × (outlines_by maker gs ≡ Ok os)
made_of maker ns gs same there = (there.0, sym (ap (outlines_by maker) same) ∙ there.1)

-- and none of its outlines is refused
made : (c : In_ok-test_outlines) (s : Fitter)
    → IsTriedList c.args.face.now (job_for c.args.glyphs.now c.args.ppem c.args.fit) s c.in_ok-tried.tried
    → (os : List Outline) × (outlines_in s (known s c.args.glyphs.now) ≡ Ok os)
made c s is =
    let maker = line_fitter s (known s c.args.glyphs.now) in
    made_of maker _ _ is.numbers ((rw c.deref.ensures.value at c.in_ok-test_outlines.ensures.sound) maker is.tried)

pub returns-in_err-tried-clause-exact : goal.returns-in_err-tried-clause-exact
returns-in_err-tried-clause-exact c =
    let a = job_for c.args.glyphs.now c.args.ppem c.args.fit in
    let p = err_from_is_err_and c.from_residual.result c.from_residual.ensures.1 in
    rw (p.1, p.2) (stops_sound c.args.face.now a c.in_err-tried.field-0.0 c.in_err-tried.ensures.stops)

pub returns-in_err-tried-clause-defects : goal.returns-in_err-tried-clause-defects
returns-in_err-tried-clause-defects c =
    let a = job_for c.args.glyphs.now c.args.ppem c.args.fit in
    let p = err_from_is_err_and c.from_residual.result c.from_residual.ensures.1 in
    rw (p.1, p.2) (stops_defect c.args.face.now a c.in_err-tried.field-0.0 c.in_err-tried.ensures.defects)

pub returns-in_err-tried-clause-job : goal.returns-in_err-tried-clause-job
returns-in_err-tried-clause-job c =
    let a = job_for c.args.glyphs.now c.args.ppem c.args.fit in
    let p = err_from_is_err_and c.from_residual.result c.from_residual.ensures.1 in
    rw (p.1, p.2) (stops_tell c.args.face.now a c.in_err-tried.field-0.0 c.in_err-tried.ensures.stops)

pub returns-in_err-test_outlines-clause-exact : goal.returns-in_err-test_outlines-clause-exact
returns-in_err-test_outlines-clause-exact c =
    let a = job_for c.args.glyphs.now c.args.ppem c.args.fit in
    let is = begun (goal.at.returns-in_err-test_outlines-clause-exact c).In_ok-tried in
    let maker = line_fitter is.0 (known is.0 c.args.glyphs.now) in
    let p = err_from_is_err_and c.from_residual-in_err-test_outlines.result c.from_residual-in_err-test_outlines.ensures.1 in
    let fails = (rw c.deref.ensures.value at c.in_err-test_outlines.ensures.fault) maker is.2.tried in
    rw (p.1, p.2) (refused_gives c.args.face.now a is.0 c.in_err-test_outlines.field-0.0 is.1
    (sym (ap (outlines_by maker) is.2.numbers) ∙ fails))

pub returns-in_err-test_outlines-clause-defects : goal.returns-in_err-test_outlines-clause-defects
returns-in_err-test_outlines-clause-defects c =
    let a = job_for c.args.glyphs.now c.args.ppem c.args.fit in
    let is = begun (goal.at.returns-in_err-test_outlines-clause-defects c).In_ok-tried in
    let maker = line_fitter is.0 (known is.0 c.args.glyphs.now) in
    let p = err_from_is_err_and c.from_residual-in_err-test_outlines.result c.from_residual-in_err-test_outlines.ensures.1 in
    let fails = (rw c.deref.ensures.value at c.in_err-test_outlines.ensures.fault) maker is.2.tried in
    rw (p.1, p.2) (list_defect c.args.face.now a is.0 c.in_err-test_outlines.field-0.0 is.2.setting.exact (metrics_of c.args.face.now a is.0 c.in_ok-tried.tried is.2)
    (sym (ap (outlines_by maker) is.2.numbers) ∙ fails))

pub returns-in_err-test_outlines-clause-job : goal.returns-in_err-test_outlines-clause-job
returns-in_err-test_outlines-clause-job c =
    let p = err_from_is_err_and c.from_residual-in_err-test_outlines.result c.from_residual-in_err-test_outlines.ensures.1 in
    rw (p.1, p.2) tt

pub drawn_from-requires : goal.drawn_from-requires
drawn_from-requires c =
    let a = job_for c.args.glyphs.now c.args.ppem c.args.fit in
    let is = begun (goal.at.drawn_from-requires c).In_ok-tried in
    record { tried = (c.args.face.now, a, is.0, is.2, refl) }

pub returns-clause-exact : goal.returns-clause-exact
returns-clause-exact c =
    let a = job_for c.args.glyphs.now c.args.ppem c.args.fit in
    let all = goal.at.returns-clause-exact c in
    let is = begun all.In_ok-tried in
    let os = made all.In_ok-test_outlines is.0 is.2 in
    sound_gives c.args.face.now a is.0 os.0 _ is.1 os.1 (c.drawn_from.ensures.exact c.args.face.now a is.0 is.2 refl)

pub returns-clause-defects : goal.returns-clause-defects
returns-clause-defects c =
    let a = job_for c.args.glyphs.now c.args.ppem c.args.fit in
    let all = goal.at.returns-clause-defects c in
    let is = begun all.In_ok-tried in
    let os = made all.In_ok-test_outlines is.0 is.2 in
    drawing_tells (IsListDefect c.args.face.now a) _
    (no_list_defect c.args.face.now a is.0 os.0 is.2.setting.exact (metrics_of c.args.face.now a is.0 c.in_ok-tried.tried is.2) is.2.setting.sound os.1)
    c.drawn_from.ensures.font

pub returns-clause-job : goal.returns-clause-job
returns-clause-job c =
    let a = job_for c.args.glyphs.now c.args.ppem c.args.fit in
    let is = begun (goal.at.returns-clause-job c).In_ok-tried in
    drawn_tells c.args.face.now a is.0 _ is.1 (c.drawn_from.ensures.exact c.args.face.now a is.0 is.2 refl)

pub returns-clause-sound : goal.returns-clause-sound
returns-clause-sound c =
    let a = job_for c.args.glyphs.now c.args.ppem c.args.fit in
    let all = goal.at.returns-clause-sound c in
    let is = begun all.In_ok-tried in
    let os = made all.In_ok-test_outlines is.0 is.2 in
    let same = ap glyphs_of (metrics_of c.args.face.now a is.0 c.in_ok-tried.tried is.2) in
    drawn_sound a is.0 os.0 (glyphs_of c.args.face.now.metrics) _ same os.1
    (c.drawn_from.ensures.exact c.args.face.now a is.0 is.2 refl)
