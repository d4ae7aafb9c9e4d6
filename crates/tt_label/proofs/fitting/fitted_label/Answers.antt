use Rattle.std.proofs.Common.{◌≡◌, ◌∙◌, ap, ℕ, ◌<◌, ◌≤◌, true, List, Vec, Global, length, map, sym}
use Rattle.std.proofs.lemmas.List.{length-map}
use Rattle.std.proofs.lemmas.Result.{err_from_is_err_and}
use Rattle.std.specs.List.{flat_map}
use Rattle.tt_fit.specs.Fitting.{Fitter}
use Rattle.tt_label.specs.Fitted.{glyphs_in}
use Rattle.tt_label.specs.Label.{label_glyphs, stepped_lines}
use Rattle.tt_label.proofs.Joined.{all_flat, flat_all, lists_joined}
use Rattle.tt_label.proofs.Lines.{numbers_stepped, stepped_again}
use Rattle.tt_line.specs.Steps.{step_in_pixels}
use Rattle.tt_metrics.specs.Metrics.{glyphs_of}
use Rattle.tt_picture.specs.Distinct.{distinct, is_among}
use Rattle.tt_picture.specs.Fitted.{fitted_numbers}
use Rattle.tt_picture.specs.Steps.{step_by}
use Rattle.tt_picture.proofs.Among.{all_among, of_same_glyphs}
use Rattle.tt_picture.proofs.Outlines.{advances_are}
use Rattle.tt_strike.specs.Fitted.{AreFittedUnits}
use Rattle.tt_strike.specs.Picture.{advance_with}
use Rattle.tt_strike.specs.Work.{line_fitter}
use Rattle.tt_label.proofs.fitting.fitted_label.Goals.{In_ok-lines, In_ok-steps, In_ok-units}
use Rattle.tt_label.proofs.fitting.fitted_label.Goals as goal

abbrev items_of : List (Vec (ℕ × ℕ) Global) → List (List (ℕ × ℕ))
items_of lines = map (λ (v : Vec (ℕ × ℕ) Global). v.items) lines

abbrev all_of : List (Vec (ℕ × ℕ) Global) → List (ℕ × ℕ)
all_of lines = flat_map (λ (v : Vec (ℕ × ℕ) Global). v.items) lines

-- the glyphs of the lines are those of the text
glyphs_are : (c : In_ok-lines) → glyphs_in (items_of c.in_ok-lines.lines.items) ≡ label_glyphs c.args.sized.now.face.cmap c.args.text.now
glyphs_are c =
    let m = c.args.sized.now.face.metrics in
    let cmap = c.args.sized.now.face.cmap in
    ap glyphs_in c.in_ok-lines.ensures.exact ∙ numbers_stepped m (step_in_pixels m c.args.sized.now.ppem) cmap c.args.text.now

-- they are fitted, and the steps are theirs
fitted_then : (c : In_ok-units) → glyphs_in (items_of c.in_ok-lines.lines.items) ≡ label_glyphs c.args.sized.now.face.cmap c.args.text.now
    → (s : Fitter) × AreFittedUnits c.args.sized.now.face c.args.sized.now.ppem c.args.sized.now.fit
    (label_glyphs c.args.sized.now.face.cmap c.args.text.now) c.in_ok-units.units s
fitted_then c are = rw (c.label_advances.ensures.same, c.deref.ensures.value, are) at c.in_ok-units.ensures.fitted

steps_then : (c : In_ok-steps) → (s : Fitter) → AreFittedUnits c.args.sized.now.face c.args.sized.now.ppem c.args.sized.now.fit
    (label_glyphs c.args.sized.now.face.cmap c.args.text.now) c.in_ok-units.units s
    → items_of c.in_ok-steps.steps.items ≡ stepped_lines c.args.sized.now.face.metrics
    (step_by c.args.sized.now.face.metrics c.args.sized.now.ppem (advance_with s (label_glyphs c.args.sized.now.face.cmap c.args.text.now)))
    c.args.sized.now.face.cmap c.args.text.now
steps_then c s are =
    let m = c.args.sized.now.face.metrics in
    let ppem = c.args.sized.now.ppem in
    let cmap = c.args.sized.now.face.cmap in
    let gs = label_glyphs cmap c.args.text.now in
    let steps = (rw (c.deref-3.ensures.value, c.metrics.ensures, c.face-face.ensures, c.ppem-ppem.ensures.exact, c.in_ok-lines.ensures.exact) at
    (c.in_ok-steps.ensures (advance_with s gs))) (advances_are (line_fitter s gs) c.in_ok-units.units.fitted.items are.fitted) in
    steps ∙ stepped_again m (step_by m ppem (advance_with s gs)) (step_in_pixels m ppem) cmap c.args.text.now

-- the same glyphs, with other steps
same_glyphs : (c : In_ok-steps) → glyphs_in (items_of c.in_ok-lines.lines.items) ≡ label_glyphs c.args.sized.now.face.cmap c.args.text.now
    → (s : Fitter) → items_of c.in_ok-steps.steps.items ≡ stepped_lines c.args.sized.now.face.metrics
    (step_by c.args.sized.now.face.metrics c.args.sized.now.ppem (advance_with s (label_glyphs c.args.sized.now.face.cmap c.args.text.now)))
    c.args.sized.now.face.cmap c.args.text.now
    → map (λ (g : ℕ × ℕ). g.0) (all_of c.in_ok-steps.steps.items) ≡ map (λ (g : ℕ × ℕ). g.0) (all_of c.in_ok-lines.lines.items)
same_glyphs c are s steps =
    let first : List (ℕ × ℕ) → List ℕ = map (λ (g : ℕ × ℕ). g.0) in
    let m = c.args.sized.now.face.metrics in
    let cmap = c.args.sized.now.face.cmap in
    let new = ap glyphs_in steps ∙ numbers_stepped m (step_by m c.args.sized.now.ppem (advance_with s (label_glyphs cmap c.args.text.now))) cmap c.args.text.now in
    ap first (sym (lists_joined c.in_ok-steps.steps.items)) ∙ new ∙ sym are ∙ ap first (lists_joined c.in_ok-lines.lines.items)

pub fit_lines-requires-clause-known : goal.fit_lines-requires-clause-known
fit_lines-requires-clause-known c = rw (c.deref.ensures.value, c.label_advances.ensures.same) c.in_ok-lines.ensures.known

pub fit_lines-requires-clause-bounded : goal.fit_lines-requires-clause-bounded
fit_lines-requires-clause-bounded c = rw c.label_advances.ensures.same c.requires.bounded

pub fit_lines-requires-clause-cache : goal.fit_lines-requires-clause-cache
fit_lines-requires-clause-cache c = rw c.label_advances.ensures.same c.requires.cache

pub step_lines-requires-clause-places : goal.step_lines-requires-clause-places
step_lines-requires-clause-places c =
    let all = goal.at.step_lines-requires-clause-places c in
    rw (c.deref-2.ensures.value, c.deref-3.ensures.value) (fitted_then all.In_ok-units (glyphs_are all.In_ok-lines)).1.places

pub step_lines-requires-clause-known : goal.step_lines-requires-clause-known
step_lines-requires-clause-known c =
    rw (c.deref-2.ensures.value, c.in_ok-units.ensures.room, c.label_advances.ensures.same) c.in_ok-lines.ensures.known

pub step_lines-requires-clause-among : goal.step_lines-requires-clause-among
step_lines-requires-clause-among c =
    let all = goal.at.step_lines-requires-clause-among c in
    let lines = c.in_ok-lines.lines.items in
    let are = glyphs_are all.In_ok-lines in
    let f = fitted_then all.In_ok-units are in
    let numbers = fitted_numbers c.in_ok-units.units.fitted.items in
    let joined = ap (λ (gs : List (ℕ × ℕ)). distinct (map (λ (g : ℕ × ℕ). g.0) gs)) (lists_joined lines) in
    let among = all_among (all_of lines) numbers (f.1.numbers ∙ ap distinct (sym are) ∙ joined) in
    rw c.deref-3.ensures.value (flat_all (λ (g : ℕ × ℕ). is_among g.0 numbers ≡ true) (λ (l : Vec (ℕ × ℕ) Global). l.items) lines among)

pub returns-in_err-units-clause-stops : goal.returns-in_err-units-clause-stops
returns-in_err-units-clause-stops c =
    let are = glyphs_are (goal.at.returns-in_err-units-clause-stops c).In_ok-lines in
    let p = err_from_is_err_and c.from_residual-in_err-units.result c.from_residual-in_err-units.ensures.1 in
    rw (p.1, p.2) (rw (c.label_advances.ensures.same, c.deref.ensures.value, are) at c.in_err-units.ensures.stops)

pub returns-in_err-units-clause-defects : goal.returns-in_err-units-clause-defects
returns-in_err-units-clause-defects c =
    let are = glyphs_are (goal.at.returns-in_err-units-clause-defects c).In_ok-lines in
    let p = err_from_is_err_and c.from_residual-in_err-units.result c.from_residual-in_err-units.ensures.1 in
    rw (p.1, p.2) (rw (c.label_advances.ensures.same, c.deref.ensures.value, are) at c.in_err-units.ensures.defects)

pub returns-clause-fitted : goal.returns-clause-fitted
returns-clause-fitted c =
    let all = goal.at.returns-clause-fitted c in
    let f = fitted_then all.In_ok-units (glyphs_are all.In_ok-lines) in
    (f.0, f.1, steps_then all.In_ok-steps f.0 f.1)

pub returns-clause-known : goal.returns-clause-known
returns-clause-known c =
    let all = goal.at.returns-clause-known c in
    let are = glyphs_are all.In_ok-lines in
    let f = fitted_then all.In_ok-units are in
    let lines = c.in_ok-lines.lines.items in
    of_same_glyphs (λ n. n < glyphs_of c.args.sized.now.face.metrics) (all_of lines) (all_of c.in_ok-steps.steps.items)
    (same_glyphs all.In_ok-steps are f.0 (steps_then all.In_ok-steps f.0 f.1))
    (all_flat (λ (g : ℕ × ℕ). g.0 < glyphs_of c.args.sized.now.face.metrics) (λ (v : Vec (ℕ × ℕ) Global). v.items) lines c.in_ok-lines.ensures.known)

pub returns-clause-few : goal.returns-clause-few
returns-clause-few c =
    let all = goal.at.returns-clause-few c in
    let are = glyphs_are all.In_ok-lines in
    let f = fitted_then all.In_ok-units are in
    let first : ℕ × ℕ → ℕ = λ g. g.0 in
    let same : length (all_of c.in_ok-steps.steps.items) ≡ length (all_of c.in_ok-lines.lines.items) =
    sym (length-map (all_of c.in_ok-steps.steps.items) first) ∙ ap length (same_glyphs all.In_ok-steps are f.0 (steps_then all.In_ok-steps f.0 f.1))
    ∙ length-map (all_of c.in_ok-lines.lines.items) first in
    rw same c.in_ok-lines.ensures.few

-- as many lines
as_many : (c : In_ok-steps) → (s : Fitter) → AreFittedUnits c.args.sized.now.face c.args.sized.now.ppem c.args.sized.now.fit
    (label_glyphs c.args.sized.now.face.cmap c.args.text.now) c.in_ok-units.units s
    → length c.in_ok-steps.steps.items ≡ length c.in_ok-lines.lines.items
as_many c s are =
    let items : Vec (ℕ × ℕ) Global → List (ℕ × ℕ) = λ v. v.items in
    let gs = label_glyphs c.args.sized.now.face.cmap c.args.text.now in
    let steps = (rw c.deref-3.ensures.value at (c.in_ok-steps.ensures (advance_with s gs)))
    (advances_are (line_fitter s gs) c.in_ok-units.units.fitted.items are.fitted) in
    sym (length-map c.in_ok-steps.steps.items items) ∙ ap length steps
    ∙ length-map (items_of c.in_ok-lines.lines.items) _ ∙ length-map c.in_ok-lines.lines.items items

pub returns-clause-some : goal.returns-clause-some
returns-clause-some c =
    let all = goal.at.returns-clause-some c in
    let f = fitted_then all.In_ok-units (glyphs_are all.In_ok-lines) in
    rw (as_many all.In_ok-steps f.0 f.1) c.in_ok-lines.ensures.some

pub returns-clause-count : goal.returns-clause-count
returns-clause-count c =
    let all = goal.at.returns-clause-count c in
    let f = fitted_then all.In_ok-units (glyphs_are all.In_ok-lines) in
    rw (as_many all.In_ok-steps f.0 f.1) c.in_ok-lines.ensures.count

pub returns-clause-defects : goal.returns-clause-defects
returns-clause-defects c =
    let are = glyphs_are (goal.at.returns-clause-defects c).In_ok-lines in
    rw (c.label_advances.ensures.same, c.deref.ensures.value, are) at c.in_ok-units.ensures.defects

pub returns-clause-same : goal.returns-clause-same
returns-clause-same c = c.fit_lines.ensures.same ∙ c.label_advances.ensures.same
