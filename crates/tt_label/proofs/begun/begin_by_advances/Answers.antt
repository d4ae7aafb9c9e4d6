use Rattle.std.proofs.Common.{◌≡◌, ◌∙◌, ◌<◌, ◌≤◌, ℕ, ap, length, map, sym, refl, Ok, arith}
use Rattle.std.proofs.lemmas.List.{length-map}
use Rattle.std.proofs.lemmas.Result.{err_from_is_err_and}
use Rattle.tt_advances.specs.Defects.{IsAdvanceDefect}
use Rattle.tt_advances.specs.Found.{advances_tested}
use Rattle.tt_advances.specs.Lines.{advance_step}
use Rattle.tt_core.specs.Limits.{text_limit}
use Rattle.tt_core.specs.Outcomes.{draw_fault_of_font}
use Rattle.tt_label.specs.Gathered.{gathered, units_glyphs}
use Rattle.tt_label.specs.Label.{label_glyphs}
use Rattle.tt_advances.proofs.Finding.{before_value}
use Rattle.tt_label.proofs.UnitsMade.{count_as_many, lines_as_short, rows_as_few, rows_found, shapes_make_units, shapes_stop_units, stopped_textless, unbounded_step, units_stop_units}
use Rattle.tt_label.proofs.UnitGlyphs.{as_many_glyphs, at_zero, glyphs_have, its_units, text_has, zero_have, zero_numbers, zero_pens}
use Rattle.tt_label_rows.specs.Units.{all_glyphs, stepped_lines, text_units}
use Rattle.tt_line.specs.Layout.{Placement}
use Rattle.tt_line.specs.Outcome.{placement_of}
use Rattle.tt_metrics.specs.Metrics.{glyphs_of}
use Rattle.tt_strike.specs.Strikes.{SizedFace, job_by}
use Rattle.tt_strike.proofs.Stopped.{font_tells}
use Rattle.tt_strike.proofs.Telling.{both_sound, made_tells, units_tell}
use Rattle.tt_strike.proofs.Textless.{cost_textless, made_textless}
use Rattle.tt_label.proofs.begun.begin_by_advances.Goals.{After-gathered_line-gathered, In_ok-all_glyphs, In_ok-lines, In_ok-units}
use Rattle.tt_label.proofs.begun.begin_by_advances.Goals as goal

-- the glyphs of the text
flat_of : (c : In_ok-all_glyphs) → c.in_ok-all_glyphs.field-0.items ≡ at_zero (all_glyphs (its_units c.in_ok-units.units.items))
flat_of c = rw c.deref-2.ensures.value at c.in_ok-all_glyphs.ensures

few_then : (c : In_ok-all_glyphs) → length c.in_ok-all_glyphs.field-0.items ≤ text_limit
few_then c =
    let many = ap length (flat_of c) ∙ length-map (all_glyphs (its_units c.in_ok-units.units.items)) (λ (g : ℕ). (g, 0)) ∙ as_many_glyphs c.in_ok-units.units.items in
    omega (arith, many, c.in_ok-units.ensures.few)

pub gathered_line-gathered-requires-clause-few : goal.gathered_line-gathered-requires-clause-few
gathered_line-gathered-requires-clause-few c = few_then (goal.at.gathered_line-gathered-requires-clause-few c).In_ok-all_glyphs

pub gathered_line-gathered-requires-clause-pens : goal.gathered_line-gathered-requires-clause-pens
gathered_line-gathered-requires-clause-pens c =
    rw (flat_of (goal.at.gathered_line-gathered-requires-clause-pens c).In_ok-all_glyphs) (zero_pens (all_glyphs (its_units c.in_ok-units.units.items)))

-- the gathered line
line_then : (c : After-gathered_line-gathered) → placement_of c.gathered_line-gathered.result.line
    ≡ gathered (all_glyphs (text_units c.sized.inside.source.face.now.cmap c.args.text.now))
line_then c =
    let units : its_units c.in_ok-units.units.items ≡ text_units c.sized.inside.source.face.now.cmap c.args.text.now = rw (← c.sized.view_is) at c.in_ok-units.ensures.exact in
    let flat : c.in_ok-all_glyphs.field-0.items ≡ at_zero (all_glyphs (its_units c.in_ok-units.units.items)) = rw c.deref-2.ensures.value at c.in_ok-all_glyphs.ensures in
    c.gathered_line-gathered.ensures.line ∙ rw (flat, units) refl

-- its glyphs are those of the lines of the text
label_numbers : (c : After-gathered_line-gathered) → map (λ (g : ℕ × ℕ). g.0) c.gathered_line-gathered.result.line.glyphs.items
    ≡ label_glyphs c.sized.inside.source.face.now.cmap c.args.text.now
label_numbers c =
    let cmap = c.sized.inside.source.face.now.cmap in
    ap (λ (l : Placement). map (λ (g : ℕ × ℕ). g.0) l.glyphs) (line_then c) ∙ zero_numbers (all_glyphs (text_units cmap c.args.text.now))
    ∙ text_has cmap c.args.text.now

-- the units are those of the text
units_then : (c : In_ok-units) → its_units c.in_ok-units.units.items ≡ text_units c.sized.inside.source.face.now.cmap c.args.text.now
units_then c = rw (← c.sized.view_is) at c.in_ok-units.ensures.exact

-- their advances are found
found_then : (c : In_ok-lines) → (advances_tested c.sized.inside.source.face.now (all_glyphs (text_units c.sized.inside.source.face.now.cmap c.args.text.now)) ≡ Ok tt)
    × (its_units c.in_ok-lines.lines.items ≡ stepped_lines c.sized.inside.source.face.now.metrics
    (advance_step c.sized.inside.source.face.now c.sized.inside.source.ppem) (its_units c.in_ok-units.units.items))
found_then c =
    let face = c.sized.inside.source.face.now in
    let found = rows_found face c.sized.inside.source.ppem (its_units c.in_ok-units.units.items) (its_units c.in_ok-lines.lines.items)
    (rw c.deref.ensures.value at c.in_ok-lines.ensures.exact) in
    let units : its_units c.in_ok-units.units.items ≡ text_units face.cmap c.args.text.now = rw (← c.sized.view_is) at c.in_ok-units.ensures.exact in
    (rw units at found.0, found.1)

pub returns-in_err-lines-clause-stops : goal.returns-in_err-lines-clause-stops
returns-in_err-lines-clause-stops c =
    let z : SizedFace = record { face = c.sized.inside.source.face.now; ppem = c.sized.inside.source.ppem; fit = c.sized.inside.source.fit } in
    let a = job_by z c.args.text.now c.args.margin in
    let all = goal.at.returns-in_err-lines-clause-stops c in
    let e = c.in_err-lines.field-0.0 in
    let unbounded = rw (← c.sized.view_is) at c.requires.unbounded in
    let fails = rw (c.deref.ensures.value, units_then all.In_ok-units) at c.in_err-lines.ensures.exact in
    let p = err_from_is_err_and c.from_residual-in_err-lines.result c.from_residual-in_err-lines.ensures.1 in
    rw (p.1, p.2, ← c.sized.view_is) (units_stop_units z.face a e unbounded
    (before_value (advances_tested z.face (units_glyphs z.face a)) _ e fails))

pub returns-in_err-lines-clause-defects : goal.returns-in_err-lines-clause-defects
returns-in_err-lines-clause-defects c =
    let z : SizedFace = record { face = c.sized.inside.source.face.now; ppem = c.sized.inside.source.ppem; fit = c.sized.inside.source.fit } in
    let a = job_by z c.args.text.now c.args.margin in
    let all = goal.at.returns-in_err-lines-clause-defects c in
    let e = c.in_err-lines.field-0.0 in
    let gs = label_glyphs z.face.cmap c.args.text.now in
    let unbounded = rw (← c.sized.view_is) at c.requires.unbounded in
    let told = rw (c.deref.ensures.value, units_then all.In_ok-units, text_has z.face.cmap c.args.text.now) at c.in_err-lines.ensures.defects in
    let p = err_from_is_err_and c.from_residual-in_err-lines.result c.from_residual-in_err-lines.ensures.1 in
    rw (p.1, p.2, ← c.sized.view_is) (units_tell z.face a gs (draw_fault_of_font e) unbounded (font_tells (IsAdvanceDefect z.face gs) e told))

pub tested_glyphs-requires-clause-unbounded : goal.tested_glyphs-requires-clause-unbounded
tested_glyphs-requires-clause-unbounded c = rw c.unstepped_units.ensures.same c.requires.unbounded

pub tested_glyphs-requires-clause-cache : goal.tested_glyphs-requires-clause-cache
tested_glyphs-requires-clause-cache c = rw c.unstepped_units.ensures.same c.requires.cache

pub tested_glyphs-requires-clause-known : goal.tested_glyphs-requires-clause-known
tested_glyphs-requires-clause-known c =
    let all = goal.at.tested_glyphs-requires-clause-known c in
    let P : ℕ → Type 0 = λ n. n < glyphs_of c.sized.inside.source.face.now.metrics in
    let known = rw (← c.sized.view_is) at c.in_ok-units.ensures.known in
    let flat = flat_of all.In_ok-all_glyphs in
    let own : c.gathered_line-gathered.result.line.glyphs.items ≡ c.in_ok-all_glyphs.field-0.items = ap (λ (l : Placement). l.glyphs) c.gathered_line-gathered.ensures.line in
    rw (c.unstepped_units.ensures.same, ← c.sized.view_is, own, flat) (zero_have P (all_glyphs (its_units c.in_ok-units.units.items)) (glyphs_have P c.in_ok-units.units.items known))

pub returns-in_err-glyphs-clause-cache : goal.returns-in_err-glyphs-clause-cache
returns-in_err-glyphs-clause-cache c = rw c.unstepped_units.ensures.same at c.tested_glyphs.ensures.cache

pub returns-in_err-glyphs-clause-stops : goal.returns-in_err-glyphs-clause-stops
returns-in_err-glyphs-clause-stops c =
    let z = c.args.sized.now in
    let a = job_by z c.args.text.now c.args.margin in
    let all = goal.at.returns-in_err-glyphs-clause-stops c in
    let line : placement_of c.gathered_line-gathered.result.line ≡ gathered (units_glyphs z.face a) = rw (← c.sized.view_is) (line_then all.After-gathered_line-gathered) in
    let p = err_from_is_err_and c.from_residual-in_err-glyphs.result c.from_residual-in_err-glyphs.ensures.1 in
    let found : advances_tested z.face (units_glyphs z.face a) ≡ Ok tt = rw (← c.sized.view_is) (found_then all.In_ok-lines).0 in
    rw (p.1, p.2) (shapes_stop_units z.face a c.in_err-glyphs.field-0.0 c.requires.unbounded found
    (stopped_textless z c.args.text.now c.args.margin c.gathered_line-gathered.result.margin (units_glyphs z.face a)
    (placement_of c.gathered_line-gathered.result.line) c.in_err-glyphs.field-0.0 c.gathered_line-gathered.ensures.margin line (rw c.unstepped_units.ensures.same at c.in_err-glyphs.ensures.stops)))

pub returns-in_err-glyphs-clause-defects : goal.returns-in_err-glyphs-clause-defects
returns-in_err-glyphs-clause-defects c =
    let all = goal.at.returns-in_err-glyphs-clause-defects c in
    let met = rw (c.unstepped_units.ensures.same, ← c.sized.view_is, label_numbers all.After-gathered_line-gathered) at c.in_err-glyphs.ensures.defects in
    let z : SizedFace = record { face = c.sized.inside.source.face.now; ppem = c.sized.inside.source.ppem; fit = c.sized.inside.source.fit } in
    let p = err_from_is_err_and c.from_residual-in_err-glyphs.result c.from_residual-in_err-glyphs.ensures.1 in
    rw (p.1, p.2, ← c.sized.view_is) (made_tells z.face (job_by z c.args.text.now c.args.margin) (label_glyphs z.face.cmap c.args.text.now)
    c.in_err-glyphs.field-0.0 met)

pub returns-clause-defects : goal.returns-clause-defects
returns-clause-defects c =
    let all = goal.at.returns-clause-defects c in
    let none = rw (c.unstepped_units.ensures.same, ← c.sized.view_is, label_numbers all.After-gathered_line-gathered) at c.in_ok-glyphs.ensures.defects in
    let z : SizedFace = record { face = c.sized.inside.source.face.now; ppem = c.sized.inside.source.ppem; fit = c.sized.inside.source.fit } in
    let found = rw (c.deref.ensures.value, units_then all.In_ok-units, text_has z.face.cmap c.args.text.now) at c.in_ok-lines.ensures.defects in
    rw (← c.sized.view_is) (both_sound z.face (job_by z c.args.text.now c.args.margin) (label_glyphs z.face.cmap c.args.text.now) none found)

pub returns-clause-cache : goal.returns-clause-cache
returns-clause-cache c = rw c.unstepped_units.ensures.same at c.tested_glyphs.ensures.cache

pub returns-clause-begun : goal.returns-clause-begun
returns-clause-begun c =
    let z : SizedFace = record { face = c.sized.inside.source.face.now; ppem = c.sized.inside.source.ppem; fit = c.sized.inside.source.fit } in
    let a = job_by z c.args.text.now c.args.margin in
    let all = goal.at.returns-clause-begun c in
    let gs = units_glyphs z.face a in
    let line = line_then all.After-gathered_line-gathered in
    let margin = c.gathered_line-gathered.ensures.margin in
    let units : its_units c.in_ok-units.units.items ≡ text_units z.face.cmap a.text = rw (← c.sized.view_is) at c.in_ok-units.ensures.exact in
    let unbounded = rw (← c.sized.view_is) at c.requires.unbounded in
    let textless = rw (c.unstepped_units.ensures.same, ← c.sized.view_is, line, margin) at c.in_ok-glyphs.ensures.made in
    let made = made_textless z c.args.text.now c.args.margin (gathered gs) textless in
    let cost = rw (c.unstepped_units.ensures.same, ← c.sized.view_is, line, margin) at c.in_ok-glyphs.ensures.cost in
    let step = advance_step z.face z.ppem in
    let found = found_then all.In_ok-lines in
    let steps = found.1 in
    rw (← c.sized.view_is) (
      made.setting,
      record {
        tested = rw (← c.sized.view_is) at c.requires.tested;
        made = shapes_make_units z.face a c.in_ok-glyphs.glyphs.made.items unbounded found.0 made;
        finish = record {
          opened = made.opened;
          line = line;
          stage = (unbounded, record { drawn = made; setting = refl; cost = cost_textless z c.args.text.now c.args.margin (gathered gs) ∙ cost });
        };
        lines = (rw units at steps) ∙ sym (unbounded_step z.face a made.setting unbounded);
        margin = margin;
        few = lines_as_short z.face.metrics step c.in_ok-units.units.items c.in_ok-lines.lines.items steps c.in_ok-units.ensures.few;
        some = rw (count_as_many z.face.metrics step c.in_ok-units.units.items c.in_ok-lines.lines.items steps) c.in_ok-units.ensures.some;
        rows = rows_as_few z.face.metrics step c.in_ok-units.units.items c.in_ok-lines.lines.items steps c.in_ok-units.ensures.rows;
      },
    )
