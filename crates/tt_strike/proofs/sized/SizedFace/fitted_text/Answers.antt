use Rattle.std.proofs.Common.{◌≡◌, ◌∙◌, ap, ℕ, ◌<◌, All, List, length, map, sym, subst}
use Rattle.std.proofs.lemmas.List.{length-map, with_items_is}
use Rattle.std.proofs.lemmas.Result.{err_from_is_err_and}
use Rattle.std.specs.Vec.{with_items}
use Rattle.tt_fit.specs.Fitting.{Fitter}
use Rattle.tt_line.specs.Layout.{text_glyphs}
use Rattle.tt_line.specs.Steps.{stepped}
use Rattle.tt_line.proofs.Stepped.{firsts, known_alike, length-stepped}
use Rattle.tt_metrics.specs.Metrics.{glyphs_of}
use Rattle.tt_picture.specs.Distinct.{distinct}
use Rattle.tt_picture.specs.Fitted.{fitted_numbers}
use Rattle.tt_picture.specs.Steps.{step_by}
use Rattle.tt_picture.proofs.Among.{all_among}
use Rattle.tt_picture.proofs.Outlines.{advances_are}
use Rattle.tt_strike.specs.Fitted.{AreFittedUnits}
use Rattle.tt_strike.specs.Picture.{advance_with, made_line}
use Rattle.tt_strike.specs.Work.{line_fitter}
use Rattle.tt_strike.proofs.sized.SizedFace.fitted_text.Goals.{After-put_steps, In_ok-units}
use Rattle.tt_strike.proofs.sized.SizedFace.fitted_text.Goals as goal

-- the glyphs of the units
glyphs_are : (c : In_ok-units) → map (λ (g : ℕ × ℕ). g.0) c.deref.result.now ≡ text_glyphs c.args.self.now.face.cmap c.args.text.now
glyphs_are c = ap (λ (gs : List (ℕ × ℕ)). map (λ (g : ℕ × ℕ). g.0) gs) c.deref.ensures.value ∙ c.in_ok-steps.ensures.glyphs

-- they are fitted
fitted_then : (c : In_ok-units) → (s : Fitter) × AreFittedUnits c.args.self.now.face c.args.self.now.ppem c.args.self.now.fit
    (text_glyphs c.args.self.now.face.cmap c.args.text.now) c.in_ok-units.units s
fitted_then c = rw (c.advances.ensures.same, glyphs_are c) at c.in_ok-units.ensures.fitted

-- the steps are theirs
steps_then : (c : After-put_steps) → (s : Fitter) → AreFittedUnits c.args.self.now.face c.args.self.now.ppem c.args.self.now.fit
    (text_glyphs c.args.self.now.face.cmap c.args.text.now) c.in_ok-units.units s
    → (with_items c.in_ok-steps.steps c.put_steps.new.line).items
    ≡ made_line c.args.self.now.face.metrics c.args.self.now.ppem s (text_glyphs c.args.self.now.face.cmap c.args.text.now)
steps_then c s are =
    let m = c.args.self.now.face.metrics in
    let ppem = c.args.self.now.ppem in
    let gs = text_glyphs c.args.self.now.face.cmap c.args.text.now in
    let step = step_by m ppem (advance_with s gs) in
    let fs = c.in_ok-units.units.fitted.items in
    let put = (rw (c.deref-3.ensures.value, c.metrics.ensures, c.face-face.ensures, c.ppem-ppem.ensures.exact) at (c.put_steps.ensures (advance_with s gs)))
    (advances_are (line_fitter s gs) fs are.fitted) in
    let numbers : map (λ (g : ℕ × ℕ). g.0) c.deref_mut.result.now ≡ gs =
    ap (λ (ps : List (ℕ × ℕ)). map (λ (g : ℕ × ℕ). g.0) ps) c.deref_mut.ensures.value ∙ c.in_ok-steps.ensures.glyphs in
    let count : length c.put_steps.new.line ≡ c.in_ok-steps.steps.len =
    ap length put ∙ length-stepped m step (map (λ (g : ℕ × ℕ). g.0) c.deref_mut.result.now)
    ∙ length-map c.deref_mut.result.now (λ (g : ℕ × ℕ). g.0) ∙ c.deref_mut.ensures.len in
    with_items_is c.in_ok-steps.steps c.put_steps.new.line count ∙ put ∙ ap (λ (ns : List ℕ). stepped m step ns) numbers

pub fit_units-requires-clause-known : goal.fit_units-requires-clause-known
fit_units-requires-clause-known c = rw (c.deref.ensures.value, c.advances.ensures.same) c.in_ok-steps.ensures.known

pub fit_units-requires-clause-bounded : goal.fit_units-requires-clause-bounded
fit_units-requires-clause-bounded c = rw c.advances.ensures.same c.requires.bounded

pub fit_units-requires-clause-cache : goal.fit_units-requires-clause-cache
fit_units-requires-clause-cache c = rw c.advances.ensures.same c.requires.cache

pub put_steps-requires-clause-places : goal.put_steps-requires-clause-places
put_steps-requires-clause-places c =
    let are = fitted_then (goal.at.put_steps-requires-clause-places c).In_ok-units in
    rw (c.deref-2.ensures.value, c.deref-3.ensures.value) are.1.places

pub put_steps-requires-clause-known : goal.put_steps-requires-clause-known
put_steps-requires-clause-known c =
    rw (c.deref-2.ensures.value, c.deref_mut.ensures.value, c.in_ok-units.ensures.room, c.advances.ensures.same) c.in_ok-steps.ensures.known

pub put_steps-requires-clause-among : goal.put_steps-requires-clause-among
put_steps-requires-clause-among c =
    let are = fitted_then (goal.at.put_steps-requires-clause-among c).In_ok-units in
    rw (c.deref-3.ensures.value, c.deref_mut.ensures.value) (all_among c.in_ok-steps.steps.items
    (fitted_numbers c.in_ok-units.units.fitted.items) (are.1.numbers ∙ ap distinct (sym c.in_ok-steps.ensures.glyphs)))

pub returns-in_err-units-clause-stops : goal.returns-in_err-units-clause-stops
returns-in_err-units-clause-stops c =
    let p = err_from_is_err_and c.from_residual-in_err-units.result c.from_residual-in_err-units.ensures.1 in
    let glyphs = ap (λ (gs : List (ℕ × ℕ)). map (λ (g : ℕ × ℕ). g.0) gs) c.deref.ensures.value ∙ c.in_ok-steps.ensures.glyphs in
    rw (p.1, p.2) (rw (c.advances.ensures.same, glyphs) at c.in_err-units.ensures.stops)

pub returns-in_err-units-clause-defects : goal.returns-in_err-units-clause-defects
returns-in_err-units-clause-defects c =
    let p = err_from_is_err_and c.from_residual-in_err-units.result c.from_residual-in_err-units.ensures.1 in
    let glyphs = ap (λ (gs : List (ℕ × ℕ)). map (λ (g : ℕ × ℕ). g.0) gs) c.deref.ensures.value ∙ c.in_ok-steps.ensures.glyphs in
    rw (p.1, p.2) (rw (c.advances.ensures.same, glyphs) at c.in_err-units.ensures.defects)

pub returns-clause-fitted : goal.returns-clause-fitted
returns-clause-fitted c =
    let all = goal.at.returns-clause-fitted c in
    let are = fitted_then all.In_ok-units in
    (are.0, are.1, steps_then all.After-put_steps are.0 are.1)

pub returns-clause-defects : goal.returns-clause-defects
returns-clause-defects c =
    rw (c.advances.ensures.same, glyphs_are (goal.at.returns-clause-defects c).In_ok-units) at c.in_ok-units.ensures.defects

pub returns-clause-known : goal.returns-clause-known
returns-clause-known c =
    let all = goal.at.returns-clause-known c in
    let m = c.args.self.now.face.metrics in
    let gs = text_glyphs c.args.self.now.face.cmap c.args.text.now in
    let are = fitted_then all.In_ok-units in
    let step = step_by m c.args.self.now.ppem (advance_with are.0 gs) in
    let line = c.in_ok-steps.steps.items in
    rw (steps_then all.After-put_steps are.0 are.1)
    (known_alike (glyphs_of m) line (stepped m step gs) (c.in_ok-steps.ensures.glyphs ∙ sym (firsts m step gs)) c.in_ok-steps.ensures.known)

pub returns-clause-few : goal.returns-clause-few
returns-clause-few c =
    let all = goal.at.returns-clause-few c in
    let m = c.args.self.now.face.metrics in
    let gs = text_glyphs c.args.self.now.face.cmap c.args.text.now in
    let are = fitted_then all.In_ok-units in
    let step = step_by m c.args.self.now.ppem (advance_with are.0 gs) in
    let line = c.in_ok-steps.steps.items in
    let many : length (stepped m step gs) ≡ length line = length-stepped m step gs ∙ ap length (sym c.in_ok-steps.ensures.glyphs)
    ∙ length-map line (λ (g : ℕ × ℕ). g.0) in
    rw (steps_then all.After-put_steps are.0 are.1, many) c.in_ok-steps.ensures.few

pub returns-clause-same : goal.returns-clause-same
returns-clause-same c = c.fit_units.ensures.same ∙ c.advances.ensures.same
