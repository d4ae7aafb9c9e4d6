use Rattle.std.proofs.Common.{◌≡◌, ◌∙◌, ap, refl, sym, ◌<◌, []}
use Rattle.std.proofs.lemmas.Result.{err_from_is_err_and}
use Rattle.tt_face.specs.Faces.{Face, glyphs_in}
use Rattle.tt_fit.specs.Fitting.{Fitter}
use Rattle.tt_metrics.specs.Metrics.{glyphs_of}
use Rattle.tt_picture.specs.Distinct.{distinct}
use Rattle.tt_picture.proofs.Listing.{distinct_differ}
use Rattle.tt_strike.specs.Defects.{IsSettingDefect}
use Rattle.tt_strike.specs.Makers.{IsSetting, job_at}
use Rattle.tt_strike.specs.Strikes.{SizedFace}
use Rattle.tt_strike.specs.Work.{line_fitter, started}
use Rattle.tt_strike.proofs.Stopped.{font_tells}
use Rattle.tt_glyphs.specs.Listed.{known_of}
use Rattle.tt_glyphs.specs.Requests.{job_for, points_of_list_tested}
use Rattle.tt_glyphs.specs.Tried.{tried_numbers}
use Rattle.tt_glyphs.proofs.ListBegun.{begun_is, charging_tells, count_stops, numbers_hold, numbers_tried, points_stop, setting_source, setting_stops, size_stops, tried_themselves}
use Rattle.tt_glyphs.proofs.tried.tried_list.Goals.{In_ok-charge, In_ok-fitter, In_ok-met}
use Rattle.tt_glyphs.proofs.tried.tried_list.Goals as goal

pub returns-in_err-sized-clause-stops : goal.returns-in_err-sized-clause-stops
returns-in_err-sized-clause-stops c =
    let a = job_for c.args.glyphs.now c.args.ppem c.args.fit in
    let p = err_from_is_err_and c.from_residual.result c.from_residual.ensures.1 in
    rw (p.1, p.2) (size_stops c.args.face.now a c.in_err-sized.field-0.0 c.in_err-sized.ensures.tested)

pub returns-in_err-test_count-clause-stops : goal.returns-in_err-test_count-clause-stops
returns-in_err-test_count-clause-stops c =
    let a = job_for c.args.glyphs.now c.args.ppem c.args.fit in
    let p = err_from_is_err_and c.from_residual-in_err-test_count.result c.from_residual-in_err-test_count.ensures.1 in
    rw (p.1, p.2) (count_stops c.args.face.now a c.in_err-test_count.field-0.0 c.in_ok-sized.ensures.tested c.in_err-test_count.ensures.exact)

pub returns-in_err-fitter-clause-stops : goal.returns-in_err-fitter-clause-stops
returns-in_err-fitter-clause-stops c =
    let a = job_for c.args.glyphs.now c.args.ppem c.args.fit in
    let is = c.sized.view_is ∙ c.in_ok-sized.ensures.exact in
    let face = ap (λ (z : SizedFace). z.face) is in
    let size = ap (λ (z : SizedFace). z.ppem) is in
    let how = ap (λ (z : SizedFace). z.fit) is in
    let p = err_from_is_err_and c.from_residual-in_err-fitter.result c.from_residual-in_err-fitter.ensures.1 in
    rw (p.1, p.2) (setting_stops c.args.face.now a c.in_err-fitter.field-0.0 c.in_ok-sized.ensures.tested
    c.in_ok-test_count.ensures.exact (rw (face, size, how) at c.in_err-fitter.ensures.exact))

pub returns-in_err-fitter-clause-defects : goal.returns-in_err-fitter-clause-defects
returns-in_err-fitter-clause-defects c =
    let is = c.sized.view_is ∙ c.in_ok-sized.ensures.exact in
    let face = ap (λ (z : SizedFace). z.face) is in
    let size = ap (λ (z : SizedFace). z.ppem) is in
    let how = ap (λ (z : SizedFace). z.fit) is in
    let p = err_from_is_err_and c.from_residual-in_err-fitter.result c.from_residual-in_err-fitter.ensures.1 in
    rw (p.1, p.2) (font_tells (IsSettingDefect c.args.face.now (job_at c.args.ppem c.args.fit)) c.in_err-fitter.field-0.0
    (rw (face, size, how) at c.in_err-fitter.ensures.defects))

-- the fitter is that of the face
setting_is : (c : In_ok-fitter) → IsSetting c.args.face.now c.args.ppem c.args.fit c.in_ok-fitter.fitter
setting_is c =
    let is = c.sized.view_is ∙ c.in_ok-sized.ensures.exact in
    let face = ap (λ (z : SizedFace). z.face) is in
    let size = ap (λ (z : SizedFace). z.ppem) is in
    let how = ap (λ (z : SizedFace). z.fit) is in
    rw (face, size, how) at c.in_ok-fitter.ensures.setting

-- the count of glyphs is that of its metrics
count_is : (c : In_ok-met) → IsSetting c.args.face.now c.args.ppem c.args.fit c.in_ok-fitter.fitter
    → c.glyphs-count.result ≡ glyphs_of c.in_ok-fitter.fitter.metrics
count_is c is =
    rw c.metrics.ensures at c.glyphs-count.ensures.exact
    ∙ sym (ap glyphs_of (setting_source c.args.face.now c.args.ppem c.args.fit c.in_ok-fitter.fitter is.exact).0)

tables_are : (c : In_ok-met) → IsSetting c.args.face.now c.args.ppem c.args.fit c.in_ok-fitter.fitter
    → c.glyphs-count.result ≡ c.in_ok-fitter.fitter.tables.glyphs
tables_are c is = rw c.metrics.ensures at c.glyphs-count.ensures.exact ∙ sym is.glyphs

numbers_are : (c : In_ok-met) → IsSetting c.args.face.now c.args.ppem c.args.fit c.in_ok-fitter.fitter
    → c.in_ok-met.met.numbers.items
    ≡ distinct (known_of (glyphs_of c.in_ok-fitter.fitter.metrics) c.args.glyphs.now)
numbers_are c is =
    rw c.deref.ensures.value at c.in_ok-met.ensures.numbers ∙ ap distinct c.in_ok-line.ensures.numbers
    ∙ ap (λ n. distinct (known_of n c.args.glyphs.now)) (count_is c is)

pub charge-requires-clause-known : goal.charge-requires-clause-known
charge-requires-clause-known c =
    let all = goal.at.charge-requires-clause-known c in
    let is = setting_is all.In_ok-fitter in
    rw (c.deref-2.ensures.value, ← tables_are all.In_ok-met is) c.in_ok-met.ensures.known

pub charge-requires-clause-unbounded : goal.charge-requires-clause-unbounded
charge-requires-clause-unbounded c = (setting_is (goal.at.charge-requires-clause-unbounded c).In_ok-fitter).unbounded

-- the points are charged
charged_is : (c : In_ok-charge) → c.in_ok-met.met.numbers.items
    ≡ distinct (known_of (glyphs_of c.in_ok-fitter.fitter.metrics) c.args.glyphs.now)
    → c.charge.new.fitter ≡ started c.in_ok-fitter.fitter (known_of (glyphs_of c.in_ok-fitter.fitter.metrics) c.args.glyphs.now)
charged_is c numbers =
    c.in_ok-charge.ensures.started (known_of (glyphs_of c.in_ok-fitter.fitter.metrics) c.args.glyphs.now)
    (c.deref-2.ensures.value ∙ numbers)

pub try_glyphs-requires-clause-known : goal.try_glyphs-requires-clause-known
try_glyphs-requires-clause-known c =
    let all = goal.at.try_glyphs-requires-clause-known c in
    let is = setting_is all.In_ok-fitter in
    rw (c.deref-3.ensures.value, charged_is all.In_ok-charge (numbers_are all.In_ok-met is), ← tables_are all.In_ok-met is)
    c.in_ok-met.ensures.known

pub try_glyphs-requires-clause-differ : goal.try_glyphs-requires-clause-differ
try_glyphs-requires-clause-differ c =
    let all = goal.at.try_glyphs-requires-clause-differ c in
    let numbers = numbers_are all.In_ok-met (setting_is all.In_ok-fitter) in
    rw (c.deref-3.ensures.value, numbers)
    (distinct_differ [] (known_of (glyphs_of c.in_ok-fitter.fitter.metrics) c.args.glyphs.now) refl)

pub returns-in_err-charge-clause-stops : goal.returns-in_err-charge-clause-stops
returns-in_err-charge-clause-stops c =
    let a = job_for c.args.glyphs.now c.args.ppem c.args.fit in
    let all = goal.at.returns-in_err-charge-clause-stops c in
    let is = setting_is all.In_ok-fitter in
    let gs = known_of (glyphs_of c.in_ok-fitter.fitter.metrics) c.args.glyphs.now in
    let fails = c.in_err-charge.ensures.exact gs (c.deref-2.ensures.value ∙ numbers_are all.In_ok-met is) in
    let p = err_from_is_err_and c.from_residual-in_err-charge.result c.from_residual-in_err-charge.ensures.1 in
    rw (p.1, p.2) (points_stop c.args.face.now a c.in_ok-fitter.fitter c.in_err-charge.field-0.0 c.in_ok-sized.ensures.tested
    c.in_ok-test_count.ensures.exact is.exact fails)

pub returns-in_err-charge-clause-defects : goal.returns-in_err-charge-clause-defects
returns-in_err-charge-clause-defects c =
    let all = goal.at.returns-in_err-charge-clause-defects c in
    let gs = known_of (glyphs_of c.in_ok-fitter.fitter.metrics) c.args.glyphs.now in
    let fails = c.in_err-charge.ensures.exact gs (c.deref-2.ensures.value ∙ numbers_are all.In_ok-met (setting_is all.In_ok-fitter)) in
    let p = err_from_is_err_and c.from_residual-in_err-charge.result c.from_residual-in_err-charge.ensures.1 in
    rw (p.1, p.2) (charging_tells (IsSettingDefect c.args.face.now (job_at c.args.ppem c.args.fit))
    (points_of_list_tested c.args.fit c.in_ok-fitter.fitter gs) c.in_err-charge.field-0.0 fails)

pub returns-clause-tried : goal.returns-clause-tried
returns-clause-tried c =
    let a = job_for c.args.glyphs.now c.args.ppem c.args.fit in
    let all = goal.at.returns-clause-tried c in
    let s = c.in_ok-fitter.fitter in
    let set = setting_is all.In_ok-fitter in
    let gs = known_of (glyphs_of s.metrics) c.args.glyphs.now in
    let maker = line_fitter s gs in
    let numbers = numbers_are all.In_ok-met set in
    let charged = charged_is all.In_ok-charge numbers in
    let ofs = setting_source c.args.face.now c.args.ppem c.args.fit s set.exact in
    let is = c.sized.view_is ∙ c.in_ok-sized.ensures.exact in
    let face = ap (λ (z : SizedFace). z.face) is in
    let size = ap (λ (z : SizedFace). z.ppem) is in
    let how = ap (λ (z : SizedFace). z.fit) is in
    let points = c.in_ok-charge.ensures.exact gs (c.deref-2.ensures.value ∙ numbers) in
    let items = rw (c.deref-3.ensures.value, numbers, charged) at c.in_ok-tried.ensures.tried in
    let own : tried_numbers c.in_ok-tried.tried.items ≡ distinct gs = ap tried_numbers items ∙ numbers_tried maker (distinct gs) in
    let count : c.glyphs-count.result ≡ glyphs_of c.sized.inside.source.face.now.metrics =
    count_is all.In_ok-met set ∙ ap glyphs_of (ofs.0 ∙ sym (ap (λ (f : Face). f.metrics) face)) in
    let after = rw (c.deref-3.ensures.value, numbers, charged) at c.in_ok-tried.ensures.after in
    rw (begun_is c.args.face.now a s c.in_ok-sized.ensures.tested c.in_ok-test_count.ensures.exact set.exact points) (record {
      setting = set;
      source = record {
        metrics = ofs.0 ∙ sym (ap (λ (f : Face). f.metrics) face);
        ppem = ofs.1 ∙ sym size;
        instance = ofs.2 ∙ sym (ap (λ (f : Face). f.instance) face);
        tables = ap (λ (f : Face). glyphs_in f) face ∙ ofs.3;
      };
      of = face;
      fit = how;
      few = c.in_ok-test_count.ensures.few;
      room = c.in_ok-met.ensures.room ∙ count_is all.In_ok-met set;
      numbers = own;
      places = rw (own, ← numbers) c.in_ok-met.ensures.places;
      tried = rw items (tried_themselves maker (distinct gs));
      ruled = c.in_ok-tried.ensures.ruled;
      known = rw (← count) (numbers_hold (λ n. n < c.glyphs-count.result) c.in_ok-tried.tried.items (rw (own, ← numbers) c.in_ok-met.ensures.known));
      left = c.work.ensures ∙ ap (λ (t : Fitter). t.work) after;
    })

pub returns-clause-defects : goal.returns-clause-defects
returns-clause-defects c = (setting_is (goal.at.returns-clause-defects c).In_ok-fitter).sound
