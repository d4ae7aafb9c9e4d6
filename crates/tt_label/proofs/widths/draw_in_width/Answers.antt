use Rattle.std.proofs.Common.{◌≡◌, ◌∙◌, refl, ap, ◌-◌, ◌*◌, Ok, Err, true}
use Rattle.std.proofs.lemmas.Result.{err_from_is_err_and}
use Rattle.tt_face.specs.Faces.{Face}
use Rattle.tt_label.specs.Gathered.{AreReady, gathered, units_glyphs}
use Rattle.tt_label.specs.RowViews.{cut_view, rows_view}
use Rattle.tt_label.specs.Widths.{rows_in_width}
use Rattle.tt_label.proofs.ByStep.{size_tells_no_defect}
use Rattle.tt_label.proofs.RowsDrawn.{begun_stops_width, drawn_gives_width, finish_at, ready_at, rows_given, rows_stop_width, shapes_stop_width, text_among, text_drawn, text_inks, unready_at}
use Rattle.tt_label.proofs.RowsPlaced.{rows_have}
use Rattle.tt_label.proofs.UnitGlyphs.{its_units}
use Rattle.tt_label.proofs.UnitsMade.{begun_is, units_in_glyphs}
use Rattle.tt_label_rows.specs.Units.{all_glyphs}
use Rattle.tt_picture.specs.Distinct.{is_among}
use Rattle.tt_picture.specs.Glyphs.{numbers_of}
use Rattle.tt_picture.specs.Unfitted.{ListsOnce}
use Rattle.tt_strike.specs.Measures.{line_ink}
use Rattle.tt_strike.specs.Report.{line_report}
use Rattle.tt_strike.specs.Strikes.{SizedFace, job_by}
use Rattle.tt_strike.specs.Work.{line_fitter}
use Rattle.tt_strike.proofs.Made.{reported_as_made}
use Rattle.tt_strike.proofs.Stopped.{no_defect_told}
use Rattle.tt_label.proofs.widths.draw_in_width.Goals.{After-ppem-ppem, In_ok-glyphs, In_ok-label, In_ok-rows}
use Rattle.tt_label.proofs.widths.draw_in_width.Goals as goal

-- the metrics and the size of the face
metrics_then : (c : After-ppem-ppem) → c.metrics-metrics.result.now ≡ c.args.sized.now.face.metrics
metrics_then c =
    c.metrics-metrics.ensures ∙ ap (λ (f : Face). f.metrics) c.face.ensures ∙ ap (λ (z : SizedFace). z.face.metrics) c.begin_label.ensures.same

size_then : (c : After-ppem-ppem) → c.ppem-ppem.result ≡ c.args.sized.now.ppem
size_then c = c.ppem-ppem.ensures.exact ∙ ap (λ (z : SizedFace). z.ppem) c.begin_label.ensures.same

-- the rows of the text
rows_then : (c : In_ok-rows) → c.metrics-metrics.result.now ≡ c.args.sized.now.face.metrics → c.ppem-ppem.result ≡ c.args.sized.now.ppem
    → rows_in_width c.args.sized.now.face (job_by c.args.sized.now c.args.text.now c.args.margin) c.args.align c.args.width c.in_ok-begun.ensures.begun.0
    ≡ Ok (rows_view c.in_ok-rows.rows)
rows_then c metrics size =
    let h = c.in_ok-begun.ensures.begun.1 in
    rows_given rows_view (Ok c.in_ok-rows.rows) c.args.sized.now.face (job_by c.args.sized.now c.args.text.now c.args.margin) c.args.align c.args.width
    c.ppem-ppem.result c.metrics-metrics.result.now c.in_ok-begun.ensures.begun.0 (its_units c.in_ok-begun.begun.lines.items) metrics size h.lines
    (rw c.deref.ensures.value at c.in_ok-rows.ensures.exact)

-- the glyphs are ready
ready_then : (c : In_ok-glyphs) → AreReady c.args.sized.now.face (job_by c.args.sized.now c.args.text.now c.args.margin) c.in_ok-begun.ensures.begun.0
    (units_glyphs c.args.sized.now.face (job_by c.args.sized.now c.args.text.now c.args.margin)) c.in_ok-glyphs.glyphs.made.items c.in_ok-glyphs.glyphs.cost
ready_then c =
    let h = c.in_ok-begun.ensures.begun.1 in
    ready_at c.args.sized.now c.args.text.now c.args.margin c.in_ok-begun.begun.gathered.margin c.in_ok-begun.ensures.begun.0 c.in_ok-glyphs.glyphs.made.items
    c.in_ok-glyphs.glyphs.cost h.margin h.finish.opened (rw c.begin_label.ensures.same at c.in_ok-glyphs.ensures.ready)

pub finish_label-requires-clause-cache : goal.finish_label-requires-clause-cache
finish_label-requires-clause-cache c = rw c.begin_label.ensures.same c.begin_label.ensures.cache

pub finish_label-requires-clause-stage : goal.finish_label-requires-clause-stage
finish_label-requires-clause-stage c =
    let h = c.in_ok-begun.ensures.begun.1 in
    rw c.begin_label.ensures.same (finish_at c.args.sized.now c.args.text.now c.args.margin c.in_ok-begun.begun.gathered.margin c.in_ok-begun.begun.gathered
    c.in_ok-begun.begun.stage c.in_ok-begun.ensures.begun.0 h.margin h.finish)

pub draw_rows-requires-clause-among : goal.draw_rows-requires-clause-among
draw_rows-requires-clause-among c =
    let at = goal.at.draw_rows-requires-clause-among c in
    let z = c.args.sized.now in
    let a = job_by z c.args.text.now c.args.margin in
    let h = c.in_ok-begun.ensures.begun.1 in
    let s = c.in_ok-begun.ensures.begun.0 in
    let made = c.in_ok-glyphs.glyphs.made.items in
    let all = text_among z.face a s (units_glyphs z.face a) made c.in_ok-glyphs.glyphs.cost (ready_then at.In_ok-glyphs) in
    let glyphs : all_glyphs (its_units c.in_ok-begun.begun.lines.items) ≡ units_glyphs z.face a = ap all_glyphs h.lines ∙ units_in_glyphs z.face a s in
    rows_have (λ g. is_among g (numbers_of made) ≡ true) c.metrics-metrics.result.now c.ppem-ppem.result c.args.margin c.args.align c.args.width
    (c.args.width - 2 * c.args.margin) c.in_ok-begun.begun.lines.items (rows_view c.in_ok-rows.rows) c.in_ok-rows.rows.lines.items refl
    (rw c.deref.ensures.value at c.in_ok-rows.ensures.exact) (rw glyphs all)

pub returns-in_err-begun-clause-exact : goal.returns-in_err-begun-clause-exact
returns-in_err-begun-clause-exact c =
    let p = err_from_is_err_and c.from_residual.result c.from_residual.ensures.1 in
    rw (p.1, p.2) (begun_stops_width c.args.sized.now.face (job_by c.args.sized.now c.args.text.now c.args.margin) c.args.align c.args.width
    c.in_err-begun.field-0.0 c.in_err-begun.ensures.stops)

pub returns-in_err-rows-clause-exact : goal.returns-in_err-rows-clause-exact
returns-in_err-rows-clause-exact c =
    let at = goal.at.returns-in_err-rows-clause-exact c in
    let z = c.args.sized.now in
    let a = job_by z c.args.text.now c.args.margin in
    let h = c.in_ok-begun.ensures.begun.1 in
    let s = c.in_ok-begun.ensures.begun.0 in
    let p = err_from_is_err_and c.from_residual-in_err-rows.result c.from_residual-in_err-rows.ensures.1 in
    rw (p.1, p.2) (rows_stop_width rows_view z.face a c.args.align c.args.width s c.in_err-rows.field-0.0 (begun_is z.face a s h.tested h.made)
    (rows_given rows_view (Err c.in_err-rows.field-0.0) z.face a c.args.align c.args.width c.ppem-ppem.result c.metrics-metrics.result.now s
    (its_units c.in_ok-begun.begun.lines.items) (metrics_then at.After-ppem-ppem) (size_then at.After-ppem-ppem) h.lines
    (rw c.deref.ensures.value at c.in_err-rows.ensures.exact)))

pub returns-in_err-glyphs-clause-exact : goal.returns-in_err-glyphs-clause-exact
returns-in_err-glyphs-clause-exact c =
    let at = goal.at.returns-in_err-glyphs-clause-exact c in
    let z = c.args.sized.now in
    let a = job_by z c.args.text.now c.args.margin in
    let h = c.in_ok-begun.ensures.begun.1 in
    let s = c.in_ok-begun.ensures.begun.0 in
    let p = err_from_is_err_and c.from_residual-in_err-glyphs.result c.from_residual-in_err-glyphs.ensures.1 in
    rw (p.1, p.2) (shapes_stop_width z.face a c.args.align c.args.width s (rows_view c.in_ok-rows.rows) c.in_err-glyphs.field-0.0
    (begun_is z.face a s h.tested h.made) h.finish.opened
    (rows_then at.In_ok-rows (metrics_then at.After-ppem-ppem) (size_then at.After-ppem-ppem))
    (unready_at z c.args.text.now c.args.margin c.in_ok-begun.begun.gathered.margin c.in_err-glyphs.field-0.0 h.margin
    (rw c.begin_label.ensures.same at c.in_err-glyphs.ensures.stops)))

pub returns-in_err-label-clause-exact : goal.returns-in_err-label-clause-exact
returns-in_err-label-clause-exact c =
    let at = goal.at.returns-in_err-label-clause-exact c in
    let z = c.args.sized.now in
    let a = job_by z c.args.text.now c.args.margin in
    let h = c.in_ok-begun.ensures.begun.1 in
    let s = c.in_ok-begun.ensures.begun.0 in
    let gs = units_glyphs z.face a in
    let made = c.in_ok-glyphs.glyphs.made.items in
    let ready = ready_then at.In_ok-glyphs in
    let inks = rw c.deref-2.ensures.value at c.in_ok-inks.ensures.exact ∙ text_inks z.face a s gs made c.in_ok-glyphs.glyphs.cost ready in
    let p = err_from_is_err_and c.from_residual-in_err-label.result c.from_residual-in_err-label.ensures.1 in
    rw (p.1, p.2) (drawn_gives_width cut_view z.face a c.args.align c.args.width c.in_ok-glyphs.glyphs.cost s (rows_view c.in_ok-rows.rows) made (Err c.in_err-label.field-0.0)
    (begun_is z.face a s h.tested h.made) (rows_then at.In_ok-rows (metrics_then at.After-ppem-ppem) (size_then at.After-ppem-ppem)) ready
    (c.in_err-label.ensures.exact (line_ink s (gathered gs)) (line_fitter s gs) c.args.margin inks
    (text_drawn z.face a s gs made c.in_ok-glyphs.glyphs.cost ready) c.in_ok-rows.ensures.rows.margins))

-- the units meet each defect, and what comes after them meets none
pub returns-in_err-begun-clause-defects : goal.returns-in_err-begun-clause-defects
returns-in_err-begun-clause-defects c =
    let p = err_from_is_err_and c.from_residual.result c.from_residual.ensures.1 in
    rw (p.1, p.2) c.in_err-begun.ensures.defects

pub returns-in_err-rows-clause-defects : goal.returns-in_err-rows-clause-defects
returns-in_err-rows-clause-defects c =
    let p = err_from_is_err_and c.from_residual-in_err-rows.result c.from_residual-in_err-rows.ensures.1 in
    rw (p.1, p.2) (size_tells_no_defect rows_view _ _ c.in_err-rows.field-0.0 c.in_err-rows.ensures.exact)

pub returns-in_err-glyphs-clause-defects : goal.returns-in_err-glyphs-clause-defects
returns-in_err-glyphs-clause-defects c =
    let p = err_from_is_err_and c.from_residual-in_err-glyphs.result c.from_residual-in_err-glyphs.ensures.1 in
    rw (p.1, p.2) (no_defect_told _ c.in_err-glyphs.field-0.0 c.in_err-glyphs.ensures.font)

pub returns-in_err-label-clause-defects : goal.returns-in_err-label-clause-defects
returns-in_err-label-clause-defects c =
    let p = err_from_is_err_and c.from_residual-in_err-label.result c.from_residual-in_err-label.ensures.1 in
    rw (p.1, p.2) (no_defect_told _ c.in_err-label.field-0.0 c.in_err-label.ensures.font)

pub returns-clause-defects : goal.returns-clause-defects
returns-clause-defects c = c.in_ok-begun.ensures.defects

pub returns-clause-exact : goal.returns-clause-exact
returns-clause-exact c =
    let at = goal.at.returns-clause-exact c in
    let z = c.args.sized.now in
    let a = job_by z c.args.text.now c.args.margin in
    let h = c.in_ok-begun.ensures.begun.1 in
    let s = c.in_ok-begun.ensures.begun.0 in
    let gs = units_glyphs z.face a in
    let made = c.in_ok-glyphs.glyphs.made.items in
    let ready = ready_then at.In_ok-glyphs in
    let inks = rw c.deref-2.ensures.value at c.in_ok-inks.ensures.exact ∙ text_inks z.face a s gs made c.in_ok-glyphs.glyphs.cost ready in
    drawn_gives_width cut_view z.face a c.args.align c.args.width c.in_ok-glyphs.glyphs.cost s (rows_view c.in_ok-rows.rows) made (Ok c.in_ok-label.label)
    (begun_is z.face a s h.tested h.made) (rows_then at.In_ok-rows (metrics_then at.After-ppem-ppem) (size_then at.After-ppem-ppem)) ready
    (c.in_ok-label.ensures.exact (line_ink s (gathered gs)) (line_fitter s gs) c.args.margin inks
    (text_drawn z.face a s gs made c.in_ok-glyphs.glyphs.cost ready) c.in_ok-rows.ensures.rows.margins)

-- the unfitted glyphs are those of the whole text
listed_then : (c : In_ok-label) → AreReady c.args.sized.now.face (job_by c.args.sized.now c.args.text.now c.args.margin) c.in_ok-begun.ensures.begun.0
    (units_glyphs c.args.sized.now.face (job_by c.args.sized.now c.args.text.now c.args.margin)) c.in_ok-glyphs.glyphs.made.items c.in_ok-glyphs.glyphs.cost
    → (line_report c.args.sized.now.face (job_by c.args.sized.now c.args.text.now c.args.margin)
    (gathered (units_glyphs c.args.sized.now.face (job_by c.args.sized.now c.args.text.now c.args.margin))) ≡ Ok c.in_ok-label.label.picture.unfitted)
    × ListsOnce c.in_ok-label.label.picture.unfitted
listed_then c ready =
    let z = c.args.sized.now in
    let a = job_by z c.args.text.now c.args.margin in
    reported_as_made z.face a (gathered (units_glyphs z.face a)) c.in_ok-glyphs.glyphs.made.items c.in_ok-label.label.picture.unfitted ready.drawn
    c.in_ok-label.ensures.unfitted

pub returns-clause-report : goal.returns-clause-report
returns-clause-report c =
    let at = goal.at.returns-clause-report c in (listed_then at.In_ok-label (ready_then at.In_ok-glyphs)).0

pub returns-clause-once : goal.returns-clause-once
returns-clause-once c =
    let at = goal.at.returns-clause-once c in (listed_then at.In_ok-label (ready_then at.In_ok-glyphs)).1

pub returns-clause-cost : goal.returns-clause-cost
returns-clause-cost c =
    let at = goal.at.returns-clause-cost c in
    let ready = ready_then at.In_ok-glyphs in
    rw c.in_ok-label.ensures.cost ready.cost
