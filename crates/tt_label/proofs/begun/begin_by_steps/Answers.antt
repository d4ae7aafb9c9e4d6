use Rattle.std.proofs.Common.{◌≡◌, ◌∙◌, ◌<◌, ◌≤◌, ℕ, List, ap, length, map, sym, refl, true, arith}
use Rattle.std.proofs.lemmas.List.{length-map}
use Rattle.std.proofs.lemmas.Result.{err_from_is_err_and}
use Rattle.std.specs.Prelude.{All}
use Rattle.tt_core.specs.Limits.{text_limit}
use Rattle.tt_fit.specs.Fitting.{Fitter}
use Rattle.tt_label.specs.Gathered.{units_glyphs}
use Rattle.tt_label.specs.Label.{label_glyphs}
use Rattle.tt_label.proofs.UnitsMade.{bounded_step, count_as_many, lines_as_short, outlines_make_units, outlines_stop_units, rows_as_few}
use Rattle.tt_label.proofs.UnitGlyphs.{as_many_glyphs, at_zero, glyphs_have, its_units, text_has, units_have, zero_had, zero_have, zero_numbers, zero_pens}
use Rattle.tt_label_rows.specs.Units.{all_glyphs, text_units}
use Rattle.tt_metrics.specs.Metrics.{glyphs_of}
use Rattle.tt_picture.specs.Distinct.{distinct, is_among}
use Rattle.tt_picture.specs.Fitted.{fitted_numbers}
use Rattle.tt_picture.proofs.Among.{all_among}
use Rattle.tt_picture.proofs.Outlines.{advances_are}
use Rattle.tt_picture.specs.Steps.{step_by}
use Rattle.tt_rows.specs.declared.unit.RowUnit.{RowUnit}
use Rattle.tt_strike.specs.Fitted.{AreFittedUnits}
use Rattle.tt_strike.specs.Picture.{advance_with}
use Rattle.tt_strike.specs.Strikes.{SizedFace, job_by}
use Rattle.tt_strike.specs.Work.{line_fitter}
use Rattle.tt_strike.proofs.Stepped.{outlines_pass}
use Rattle.tt_strike.proofs.Telling.{made_sound, made_tells}
use Rattle.tt_label.proofs.begun.begin_by_steps.Goals.{In_ok-fitted, In_ok-glyphs, In_ok-units}
use Rattle.tt_label.proofs.begun.begin_by_steps.Goals as goal

-- the glyphs of the text
flat_of : (c : In_ok-glyphs) → c.in_ok-glyphs.glyphs.items ≡ at_zero (all_glyphs (its_units c.in_ok-units.units.items))
flat_of c = rw c.deref.ensures.value at c.in_ok-glyphs.ensures

numbers_of : (c : In_ok-glyphs) → map (λ (g : ℕ × ℕ). g.0) c.in_ok-glyphs.glyphs.items ≡ all_glyphs (its_units c.in_ok-units.units.items)
numbers_of c = ap (map (λ (g : ℕ × ℕ). g.0)) (flat_of c) ∙ zero_numbers (all_glyphs (its_units c.in_ok-units.units.items))

units_are : (c : In_ok-units) → its_units c.in_ok-units.units.items ≡ text_units c.sized.inside.source.face.now.cmap c.args.text.now
units_are c = rw (← c.sized.view_is) at c.in_ok-units.ensures.exact

few_then : (c : In_ok-glyphs) → length c.in_ok-glyphs.glyphs.items ≤ text_limit
few_then c =
    let many = ap length (flat_of c) ∙ length-map (all_glyphs (its_units c.in_ok-units.units.items)) (λ (g : ℕ). (g, 0)) ∙ as_many_glyphs c.in_ok-units.units.items in
    omega (arith, many, c.in_ok-units.ensures.few)

known_then : (c : In_ok-glyphs) → All (λ (g : ℕ × ℕ). g.0 < glyphs_of c.sized.inside.source.face.now.metrics) c.in_ok-glyphs.glyphs.items
known_then c =
    let P : ℕ → Type 0 = λ n. n < glyphs_of c.sized.inside.source.face.now.metrics in
    let known = rw (← c.sized.view_is) at c.in_ok-units.ensures.known in
    rw (flat_of c) (zero_have P (all_glyphs (its_units c.in_ok-units.units.items)) (glyphs_have P c.in_ok-units.units.items known))

pub fit_units-requires-clause-known : goal.fit_units-requires-clause-known
fit_units-requires-clause-known c =
    rw (c.unstepped_units.ensures.same, ← c.sized.view_is, c.deref-2.ensures.value) (known_then (goal.at.fit_units-requires-clause-known c).In_ok-glyphs)

pub fit_units-requires-clause-bounded : goal.fit_units-requires-clause-bounded
fit_units-requires-clause-bounded c = rw c.unstepped_units.ensures.same c.requires.bounded

pub fit_units-requires-clause-cache : goal.fit_units-requires-clause-cache
fit_units-requires-clause-cache c = rw c.unstepped_units.ensures.same c.requires.cache

pub fit_units-requires-clause-few : goal.fit_units-requires-clause-few
fit_units-requires-clause-few c = rw c.deref-2.ensures.value (few_then (goal.at.fit_units-requires-clause-few c).In_ok-glyphs)

-- the glyphs that are fitted are those of the text
text_numbers : (c : In_ok-glyphs) → map (λ (g : ℕ × ℕ). g.0) c.in_ok-glyphs.glyphs.items
    ≡ all_glyphs (text_units c.sized.inside.source.face.now.cmap c.args.text.now)
text_numbers c = numbers_of c ∙ ap all_glyphs (rw (← c.sized.view_is) at c.in_ok-units.ensures.exact)

fitted_then : (c : In_ok-fitted) → map (λ (g : ℕ × ℕ). g.0) c.in_ok-glyphs.glyphs.items
    ≡ all_glyphs (text_units c.sized.inside.source.face.now.cmap c.args.text.now)
    → (s : Fitter) × AreFittedUnits c.sized.inside.source.face.now c.sized.inside.source.ppem c.sized.inside.source.fit
    (all_glyphs (text_units c.sized.inside.source.face.now.cmap c.args.text.now)) c.in_ok-fitted.fitted s
fitted_then c are = rw (c.unstepped_units.ensures.same, ← c.sized.view_is, c.deref-2.ensures.value, are) at c.in_ok-fitted.ensures.fitted

pub fitted_lines-requires-clause-places : goal.fitted_lines-requires-clause-places
fitted_lines-requires-clause-places c =
    let all = goal.at.fitted_lines-requires-clause-places c in
    (fitted_then all.In_ok-fitted (text_numbers all.In_ok-glyphs)).1.places

pub fitted_lines-requires-clause-known : goal.fitted_lines-requires-clause-known
fitted_lines-requires-clause-known c =
    rw (c.deref-3.ensures.value, c.in_ok-fitted.ensures.room, c.unstepped_units.ensures.same) c.in_ok-units.ensures.known

pub fitted_lines-requires-clause-among : goal.fitted_lines-requires-clause-among
fitted_lines-requires-clause-among c =
    let all = goal.at.fitted_lines-requires-clause-among c in
    let fs = c.in_ok-fitted.fitted.fitted.items in
    let P : ℕ → Type 0 = λ n. is_among n (fitted_numbers fs) ≡ true in
    let gs = all_glyphs (its_units c.in_ok-units.units.items) in
    let are = text_numbers all.In_ok-glyphs in
    let numbers = (fitted_then all.In_ok-fitted are).1.numbers ∙ ap distinct (sym are) in
    let flat = all_among c.in_ok-glyphs.glyphs.items (fitted_numbers fs) numbers in
    rw c.deref-3.ensures.value (units_have P c.in_ok-units.units.items (zero_had P gs (rw (flat_of all.In_ok-glyphs) at flat)))

pub returns-in_err-fitted-clause-stops : goal.returns-in_err-fitted-clause-stops
returns-in_err-fitted-clause-stops c =
    let z : SizedFace = record { face = c.sized.inside.source.face.now; ppem = c.sized.inside.source.ppem; fit = c.sized.inside.source.fit } in
    let a = job_by z c.args.text.now c.args.margin in
    let all = goal.at.returns-in_err-fitted-clause-stops c in
    let bounded = rw (← c.sized.view_is) at c.requires.bounded in
    let fails = rw (c.unstepped_units.ensures.same, ← c.sized.view_is, c.deref-2.ensures.value, text_numbers all.In_ok-glyphs) at c.in_err-fitted.ensures.stops in
    let p = err_from_is_err_and c.from_residual-in_err-fitted.result c.from_residual-in_err-fitted.ensures.1 in
    rw (p.1, p.2, ← c.sized.view_is) (outlines_stop_units z.face a c.in_err-fitted.field-0.0 bounded fails)

-- they are those of its lines
label_numbers : (c : In_ok-glyphs) → map (λ (g : ℕ × ℕ). g.0) c.in_ok-glyphs.glyphs.items
    ≡ label_glyphs c.sized.inside.source.face.now.cmap c.args.text.now
label_numbers c = text_numbers c ∙ text_has c.sized.inside.source.face.now.cmap c.args.text.now

pub returns-in_err-fitted-clause-defects : goal.returns-in_err-fitted-clause-defects
returns-in_err-fitted-clause-defects c =
    let all = goal.at.returns-in_err-fitted-clause-defects c in
    let met = rw (c.unstepped_units.ensures.same, ← c.sized.view_is, c.deref-2.ensures.value, label_numbers all.In_ok-glyphs) at c.in_err-fitted.ensures.defects in
    let p = err_from_is_err_and c.from_residual-in_err-fitted.result c.from_residual-in_err-fitted.ensures.1 in
    let z : SizedFace = record { face = c.sized.inside.source.face.now; ppem = c.sized.inside.source.ppem; fit = c.sized.inside.source.fit } in
    rw (p.1, p.2, ← c.sized.view_is) (made_tells z.face (job_by z c.args.text.now c.args.margin) (label_glyphs z.face.cmap c.args.text.now)
    c.in_err-fitted.field-0.0 met)

pub returns-clause-defects : goal.returns-clause-defects
returns-clause-defects c =
    let all = goal.at.returns-clause-defects c in
    let none = rw (c.unstepped_units.ensures.same, ← c.sized.view_is, c.deref-2.ensures.value, label_numbers all.In_ok-glyphs) at c.in_ok-fitted.ensures.defects in
    let z : SizedFace = record { face = c.sized.inside.source.face.now; ppem = c.sized.inside.source.ppem; fit = c.sized.inside.source.fit } in
    let bounded = rw (← c.sized.view_is) at c.requires.bounded in
    rw (← c.sized.view_is) (made_sound z.face (job_by z c.args.text.now c.args.margin) (label_glyphs z.face.cmap c.args.text.now) bounded none)

pub gathered_line-requires-clause-few : goal.gathered_line-requires-clause-few
gathered_line-requires-clause-few c = few_then (goal.at.gathered_line-requires-clause-few c).In_ok-glyphs

pub gathered_line-requires-clause-pens : goal.gathered_line-requires-clause-pens
gathered_line-requires-clause-pens c =
    rw (flat_of (goal.at.gathered_line-requires-clause-pens c).In_ok-glyphs) (zero_pens (all_glyphs (its_units c.in_ok-units.units.items)))

pub returns-clause-begun : goal.returns-clause-begun
returns-clause-begun c =
    let z : SizedFace = record { face = c.sized.inside.source.face.now; ppem = c.sized.inside.source.ppem; fit = c.sized.inside.source.fit } in
    let a = job_by z c.args.text.now c.args.margin in
    let all = goal.at.returns-clause-begun c in
    let gs = units_glyphs z.face a in
    let f = fitted_then all.In_ok-fitted (text_numbers all.In_ok-glyphs) in
    let s = f.0 in
    let units : its_units c.in_ok-units.units.items ≡ text_units z.face.cmap a.text = rw (← c.sized.view_is) at c.in_ok-units.ensures.exact in
    let flat : c.in_ok-glyphs.glyphs.items ≡ at_zero gs = flat_of all.In_ok-glyphs ∙ ap (λ (us : List (List RowUnit)). at_zero (all_glyphs us)) units in
    let bounded = rw (← c.sized.view_is) at c.requires.bounded in
    let steps = c.in_ok-lines.ensures (advance_with s gs) (advances_are (line_fitter s gs) c.in_ok-fitted.fitted.fitted.items f.1.fitted) in
    let step = step_by z.face.metrics z.ppem (advance_with s gs) in
    let made = rw c.deref-3.ensures.value at steps in
    rw (← c.sized.view_is) (
      s,
      record {
        tested = rw (← c.sized.view_is) at c.requires.tested;
        made = outlines_make_units z.face a s f.1.outlines.0 bounded f.1.setting.exact (outlines_pass s a gs f.1.outlines.0 f.1.points f.1.outlines.1);
        finish = record {
          opened = f.1.setting.exact;
          line = c.gathered_line.ensures.line ∙ rw flat refl;
          stage = (bounded, f.1);
        };
        lines = (rw units at made) ∙ sym (bounded_step z.face a s bounded);
        margin = c.gathered_line.ensures.margin;
        few = lines_as_short z.face.metrics step c.in_ok-units.units.items c.in_ok-lines.lines.items made c.in_ok-units.ensures.few;
        some = rw (count_as_many z.face.metrics step c.in_ok-units.units.items c.in_ok-lines.lines.items made) c.in_ok-units.ensures.some;
        rows = rows_as_few z.face.metrics step c.in_ok-units.units.items c.in_ok-lines.lines.items made c.in_ok-units.ensures.rows;
      },
    )
