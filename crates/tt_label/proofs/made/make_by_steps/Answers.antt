use Rattle.std.proofs.Common.{◌≡◌, ◌∙◌, ◌<◌, ℕ, List, Vec, Global, ap, map, sym, subst, Ok}
use Rattle.std.proofs.lemmas.Result.{err_from_is_err_and}
use Rattle.std.specs.List.{flat_map}
use Rattle.tt_core.specs.Limits.{text_limit}
use Rattle.tt_label.specs.Fitted.{glyphs_in}
use Rattle.tt_label.specs.Label.{joint, joint_numbers, label_glyphs, label_placed}
use Rattle.tt_label.specs.Made.{AreLaid}
use Rattle.tt_label.specs.Views.{placements_of}
use Rattle.tt_label.proofs.ByAdvances.{made_as_joint, textless_tell}
use Rattle.tt_label.proofs.ByStep.{label_laid, size_stops_label, size_tells_no_defect, units_stop_label}
use Rattle.tt_label.proofs.Joined.{each_short}
use Rattle.tt_label.proofs.Lines.{numbers_stepped}
use Rattle.tt_label.proofs.Placed.{laid_by, placed_lines}
use Rattle.tt_line.specs.declared.line.Line.{Line}
use Rattle.tt_line.specs.Labels.{label_placement}
use Rattle.tt_line.specs.Layout.{Placement}
use Rattle.tt_line.specs.Outcome.{placement_of}
use Rattle.tt_picture.specs.Steps.{step_by}
use Rattle.tt_strike.specs.declared.laid.Laid.{Laid}
use Rattle.tt_strike.specs.Fitted.{AreFittedUnits}
use Rattle.tt_strike.specs.Picture.{advance_with}
use Rattle.tt_strike.specs.Strikes.{job_by}
use Rattle.tt_strike.proofs.Stepped.{outlines_pass}
use Rattle.tt_strike.proofs.Stopped.{no_defect_told}
use Rattle.tt_strike.proofs.Telling.{made_sound, made_tells}
use Rattle.tt_strike.proofs.Textless.{cost_textless}
use Rattle.tt_label.proofs.made.make_by_steps.Goals.{After-joint_of, In_ok-label, In_ok-lines}
use Rattle.tt_label.proofs.made.make_by_steps.Goals as goal

abbrev items_of : List (Vec (ℕ × ℕ) Global) → List (List (ℕ × ℕ))
items_of lines = map (λ (v : Vec (ℕ × ℕ) Global). v.items) lines

-- the glyphs of the steps are those of the text
glyphs_then : (c : In_ok-label) → glyphs_in (items_of c.in_ok-label.label.steps.items) ≡ label_glyphs c.args.sized.now.face.cmap c.args.text.now
glyphs_then c =
    let m = c.args.sized.now.face.metrics in
    let cmap = c.args.sized.now.face.cmap in
    let o = c.in_ok-label.ensures.fitted in
    ap glyphs_in o.2 ∙ numbers_stepped m (step_by m c.args.sized.now.ppem (advance_with o.0 (label_glyphs cmap c.args.text.now))) cmap c.args.text.now

-- the lines are laid out
placed_then : (c : In_ok-lines) → label_placement c.args.sized.now.face.metrics c.args.sized.now.ppem c.args.margin c.args.align
    (items_of c.in_ok-label.label.steps.items) ≡ Ok (placements_of c.in_ok-lines.lines.items)
placed_then c = rw (c.metrics.ensures, c.face-face.ensures, c.ppem-ppem.ensures.exact, ← c.in_ok-lines.ensures.lines) at c.in_ok-laid.ensures

laid_then : (c : In_ok-lines) → AreLaid c.args.sized.now.face c.args.margin c.in_ok-lines.lines.items
laid_then c =
    laid_by c.args.sized.now.face c.args.sized.now.ppem c.args.margin c.args.align c.in_ok-label.label.steps.items c.in_ok-lines.lines.items
    c.requires.margin c.in_ok-label.ensures.some c.in_ok-label.ensures.few c.in_ok-label.ensures.known c.in_ok-lines.ensures.margin (placed_then c)

as_text : (c : In_ok-lines) → label_placed c.args.sized.now.face (job_by c.args.sized.now c.args.text.now c.args.margin) c.args.align
    ≡ Ok (placements_of c.in_ok-lines.lines.items)
as_text c =
    let z = c.args.sized.now in
    let a = job_by z c.args.text.now c.args.margin in
    let o = c.in_ok-label.ensures.fitted in
    label_laid z.face a c.args.align o.0 o.1.outlines.0 (placements_of c.in_ok-lines.lines.items) c.requires.tested c.requires.bounded o.1.setting.exact
    (outlines_pass o.0 a (label_glyphs z.face.cmap a.text) o.1.outlines.0 o.1.points o.1.outlines.1) (rw o.2 at (placed_then c))

-- the joint line is that of the lines, and has the glyphs of the text
joint_then : (c : After-joint_of) → placement_of c.joint_of.result.now.line ≡ joint (placements_of c.in_ok-lines.lines.items)
joint_then c = c.joint_of.ensures.line ∙ ap (λ (ls : List Laid). joint (placements_of ls)) c.deref-2.ensures.value

margin_then : (c : After-joint_of) → c.joint_of.result.now.margin ≡ c.args.margin
margin_then c = c.joint_of.ensures.margin c.args.margin c.in_ok-joined.ensures.margin (rw c.deref-2.ensures.value c.in_ok-lines.ensures.margin)

numbers_then : (c : After-joint_of) → label_placement c.args.sized.now.face.metrics c.args.sized.now.ppem c.args.margin c.args.align
    (items_of c.in_ok-label.label.steps.items) ≡ Ok (placements_of c.in_ok-lines.lines.items)
    → glyphs_in (items_of c.in_ok-label.label.steps.items) ≡ label_glyphs c.args.sized.now.face.cmap c.args.text.now
    → map (λ (g : ℕ × ℕ). g.0) c.joint_of.result.now.line.glyphs.items ≡ label_glyphs c.args.sized.now.face.cmap c.args.text.now
numbers_then c placed glyphs =
    let joined = joint_then c in
    ap (λ (l : Placement). map (λ (g : ℕ × ℕ). g.0) l.glyphs) joined
    ∙ (placed_lines c.args.sized.now.face.metrics c.args.sized.now.ppem c.args.margin c.args.align (items_of c.in_ok-label.label.steps.items)
    (placements_of c.in_ok-lines.lines.items) placed).numbers ∙ glyphs

pub lay_lines-requires-clause-few : goal.lay_lines-requires-clause-few
lay_lines-requires-clause-few c =
    each_short (λ (v : Vec (ℕ × ℕ) Global). v.items) c.in_ok-label.label.steps.items text_limit c.in_ok-label.ensures.few

pub joint_line-requires : goal.joint_line-requires
joint_line-requires c = (c.args.sized.now.face, rw c.deref.ensures.value (laid_then (goal.at.joint_line-requires c).In_ok-lines))

pub joint_of-requires-clause-line : goal.joint_of-requires-clause-line
joint_of-requires-clause-line c = rw (c.deref-2.ensures.value, ← c.deref.ensures.value) c.in_ok-joined.ensures.line

pub joint_of-requires-clause-none : goal.joint_of-requires-clause-none
joint_of-requires-clause-none c = rw (c.deref-2.ensures.value, ← c.deref.ensures.value) c.in_ok-joined.ensures.none

pub drawn_units-requires-clause-bounded : goal.drawn_units-requires-clause-bounded
drawn_units-requires-clause-bounded c = rw c.fitted_label.ensures.same c.requires.bounded

pub drawn_units-requires-clause-cache : goal.drawn_units-requires-clause-cache
drawn_units-requires-clause-cache c = rw c.fitted_label.ensures.same c.requires.cache

pub drawn_units-requires-clause-fitted : goal.drawn_units-requires-clause-fitted
drawn_units-requires-clause-fitted c =
    let all = goal.at.drawn_units-requires-clause-fitted c in
    let z = c.args.sized.now in
    let o = c.in_ok-label.ensures.fitted in
    let P : List ℕ → Type 0 = λ gs. AreFittedUnits z.face z.ppem z.fit gs c.in_ok-label.label.units o.0 in
    rw c.fitted_label.ensures.same (o.0, subst P (sym (numbers_then all.After-joint_of (placed_then all.In_ok-lines) (glyphs_then all.In_ok-label))) o.1)

pub returns-in_err-label-clause-stops : goal.returns-in_err-label-clause-stops
returns-in_err-label-clause-stops c =
    let p = err_from_is_err_and c.from_residual.result c.from_residual.ensures.1 in
    rw (p.1, p.2) (units_stop_label c.args.sized.now.face (job_by c.args.sized.now c.args.text.now c.args.margin) c.args.align c.in_err-label.field-0.0
    c.requires.tested c.requires.bounded c.in_err-label.ensures.stops)

pub returns-in_err-label-clause-defects : goal.returns-in_err-label-clause-defects
returns-in_err-label-clause-defects c =
    let p = err_from_is_err_and c.from_residual.result c.from_residual.ensures.1 in
    let z = c.args.sized.now in
    rw (p.1, p.2) (made_tells z.face (job_by z c.args.text.now c.args.margin) (label_glyphs z.face.cmap c.args.text.now) c.in_err-label.field-0.0
    c.in_err-label.ensures.defects)

pub returns-in_err-laid-clause-stops : goal.returns-in_err-laid-clause-stops
returns-in_err-laid-clause-stops c =
    let z = c.args.sized.now in
    let a = job_by z c.args.text.now c.args.margin in
    let o = c.in_ok-label.ensures.fitted in
    let fails = rw (c.metrics.ensures, c.face-face.ensures, c.ppem-ppem.ensures.exact, o.2) at c.in_err-laid.ensures in
    let p = err_from_is_err_and c.from_residual-in_err-laid.result c.from_residual-in_err-laid.ensures.1 in
    rw (p.1, p.2) (size_stops_label (λ (v : Vec Line Global). map placement_of v.items) z.face a c.args.align o.0 o.1.outlines.0 c.in_err-laid.field-0.0
    c.requires.tested c.requires.bounded o.1.setting.exact
    (outlines_pass o.0 a (label_glyphs z.face.cmap a.text) o.1.outlines.0 o.1.points o.1.outlines.1) fails)

pub returns-in_err-laid-clause-defects : goal.returns-in_err-laid-clause-defects
returns-in_err-laid-clause-defects c =
    let p = err_from_is_err_and c.from_residual-in_err-laid.result c.from_residual-in_err-laid.ensures.1 in
    rw (p.1, p.2) (size_tells_no_defect (λ (v : Vec Line Global). map placement_of v.items) _ _ c.in_err-laid.field-0.0 c.in_err-laid.ensures)

pub returns-in_err-glyphs-clause-stops : goal.returns-in_err-glyphs-clause-stops
returns-in_err-glyphs-clause-stops c =
    let all = goal.at.returns-in_err-glyphs-clause-stops c in
    let p = err_from_is_err_and c.from_residual-in_err-glyphs.result c.from_residual-in_err-glyphs.ensures.1 in
    rw (p.1, p.2) (textless_tell c.args.sized.now c.fitted_label.new.sized c.args.text.now c.args.margin c.joint_of.result.now.margin c.args.align
    (placements_of c.in_ok-lines.lines.items) (placement_of c.joint_of.result.now.line) c.in_err-glyphs.field-0.0 c.fitted_label.ensures.same
    (joint_then all.After-joint_of) (as_text all.In_ok-lines) c.in_err-glyphs.ensures.stops)

pub returns-in_err-glyphs-clause-defects : goal.returns-in_err-glyphs-clause-defects
returns-in_err-glyphs-clause-defects c =
    let p = err_from_is_err_and c.from_residual-in_err-glyphs.result c.from_residual-in_err-glyphs.ensures.1 in
    rw (p.1, p.2) (no_defect_told _ c.in_err-glyphs.field-0.0 c.in_err-glyphs.ensures.font)

pub returns-in_err-glyphs-clause-cache : goal.returns-in_err-glyphs-clause-cache
returns-in_err-glyphs-clause-cache c = rw c.fitted_label.ensures.same at c.drawn_units.ensures.cache

pub returns-clause-made : goal.returns-clause-made
returns-clause-made c =
    let all = goal.at.returns-clause-made c in
    let cost = rw (c.fitted_label.ensures.same, margin_then all.After-joint_of, joint_then all.After-joint_of) at c.in_ok-glyphs.ensures.cost in
    record {
      placed = as_text all.In_ok-lines;
      laid = laid_then all.In_ok-lines;
      made = made_as_joint c.args.sized.now c.fitted_label.new.sized c.args.text.now c.args.margin c.joint_of.result.now.margin
          (placements_of c.in_ok-lines.lines.items) (placement_of c.joint_of.result.now.line) c.fitted_label.ensures.same
          (margin_then all.After-joint_of) (joint_then all.After-joint_of) c.in_ok-glyphs.ensures.made;
      cost = cost_textless c.args.sized.now c.args.text.now c.args.margin (joint (placements_of c.in_ok-lines.lines.items)) ∙ cost;
    }

pub returns-clause-defects : goal.returns-clause-defects
returns-clause-defects c =
    let z = c.args.sized.now in
    made_sound z.face (job_by z c.args.text.now c.args.margin) (label_glyphs z.face.cmap c.args.text.now) c.requires.bounded c.in_ok-label.ensures.defects

pub returns-clause-cache : goal.returns-clause-cache
returns-clause-cache c = rw c.fitted_label.ensures.same at c.drawn_units.ensures.cache
