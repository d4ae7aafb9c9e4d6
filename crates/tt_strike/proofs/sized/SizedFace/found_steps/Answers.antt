use Rattle.std.proofs.Common.{◌≡◌, ◌∙◌, ap, ℕ, List, length, map, refl, sym}
use Rattle.std.proofs.lemmas.List.{length-map, with_items_is}
use Rattle.std.proofs.lemmas.Result.{err_from_is_err_and}
use Rattle.std.specs.Vec.{with_items}
use Rattle.tt_advances.proofs.Finding.{then_value}
use Rattle.tt_advances.specs.Found.{advances_tested, units_of}
use Rattle.tt_advances.specs.Lines.{advance_line, advance_step}
use Rattle.tt_line.specs.Layout.{text_glyphs}
use Rattle.tt_line.specs.Steps.{stepped}
use Rattle.tt_line.proofs.Stepped.{firsts, known_alike, length-stepped, numbers_beside}
use Rattle.tt_metrics.specs.Metrics.{glyphs_of}
use Rattle.tt_strike.proofs.sized.SizedFace.found_steps.Goals.{After-put_unit_steps, In_ok-find_units}
use Rattle.tt_strike.proofs.sized.SizedFace.found_steps.Goals as goal

pub find_units-requires-clause-known : goal.find_units-requires-clause-known
find_units-requires-clause-known c = rw (c.deref_mut.ensures.value, c.face-face.ensures) c.in_ok-steps.ensures.known

pub find_units-requires-clause-finds : goal.find_units-requires-clause-finds
find_units-requires-clause-finds c = rw c.face-face.ensures c.requires.finds

pub returns-in_err-find_units-clause-exact : goal.returns-in_err-find_units-clause-exact
returns-in_err-find_units-clause-exact c =
    let z = c.args.self.now in
    let gs = text_glyphs z.face.cmap c.args.text.now in
    let p = err_from_is_err_and c.from_residual-in_err-find_units.result c.from_residual-in_err-find_units.ensures.1 in
    let fails = rw (c.face-face.ensures, c.deref_mut.ensures.value, c.in_ok-steps.ensures.glyphs) at c.in_err-find_units.ensures.exact in
    rw (p.1, p.2) (then_value (advances_tested z.face gs) (advance_line z.face z.ppem gs) c.in_err-find_units.field-0.0 fails)

pub returns-in_err-find_units-clause-defects : goal.returns-in_err-find_units-clause-defects
returns-in_err-find_units-clause-defects c =
    let p = err_from_is_err_and c.from_residual-in_err-find_units.result c.from_residual-in_err-find_units.ensures.1 in
    rw (p.1, p.2) (rw (c.face-face.ensures, c.deref_mut.ensures.value, c.in_ok-steps.ensures.glyphs) at c.in_err-find_units.ensures.fault)

-- their advances stand beside them
found_then : (c : In_ok-find_units)
    → (with_items c.in_ok-steps.steps c.find_units.new.line).items
    ≡ map (λ g. (g, units_of c.args.self.now.face g)) (text_glyphs c.args.self.now.face.cmap c.args.text.now)
found_then c =
    let z = c.args.self.now in
    let gs = text_glyphs z.face.cmap c.args.text.now in
    let both : ℕ → ℕ × ℕ = λ g. (g, units_of z.face g) in
    let are : c.find_units.new.line ≡ map both gs = rw (c.face-face.ensures, c.deref_mut.ensures.value, c.in_ok-steps.ensures.glyphs) at c.in_ok-find_units.ensures.units in
    let many : length c.in_ok-steps.steps.items ≡ length gs = sym (length-map c.in_ok-steps.steps.items (λ (g : ℕ × ℕ). g.0)) ∙ ap length c.in_ok-steps.ensures.glyphs in
    let count : length c.find_units.new.line ≡ c.in_ok-steps.steps.len =
    ap length are ∙ length-map gs both ∙ sym many ∙ sym (ap length c.deref_mut.ensures.value) ∙ c.deref_mut.ensures.len in
    with_items_is c.in_ok-steps.steps c.find_units.new.line count ∙ are

pub put_unit_steps-requires-clause-units : goal.put_unit_steps-requires-clause-units
put_unit_steps-requires-clause-units c =
    let all = goal.at.put_unit_steps-requires-clause-units c in
    let z = c.args.self.now in
    let gs = text_glyphs z.face.cmap c.args.text.now in
    let are : c.find_units.new.line ≡ map (λ g. (g, units_of z.face g)) gs =
    rw (c.face-face.ensures, c.deref_mut.ensures.value, c.in_ok-steps.ensures.glyphs) at c.in_ok-find_units.ensures.units in
    rw (c.deref_mut-2.ensures.value, found_then all.In_ok-find_units, ← are) c.in_ok-find_units.ensures.bound

-- and then their steps
steps_then : (c : After-put_unit_steps)
    → (with_items c.in_ok-steps.steps c.find_units.new.line).items
    ≡ map (λ g. (g, units_of c.args.self.now.face g)) (text_glyphs c.args.self.now.face.cmap c.args.text.now)
    → (with_items (with_items c.in_ok-steps.steps c.find_units.new.line) c.put_unit_steps.new.line).items
    ≡ advance_line c.args.self.now.face c.args.self.now.ppem (text_glyphs c.args.self.now.face.cmap c.args.text.now)
steps_then c found =
    let z = c.args.self.now in
    let gs = text_glyphs z.face.cmap c.args.text.now in
    let step = advance_step z.face z.ppem in
    let both : ℕ → ℕ × ℕ = λ g. (g, units_of z.face g) in
    let line : c.deref_mut-2.result.now ≡ map both gs = c.deref_mut-2.ensures.value ∙ found in
    let numbers : map (λ (g : ℕ × ℕ). g.0) c.deref_mut-2.result.now ≡ gs =
    ap (λ (ps : List (ℕ × ℕ)). map (λ (g : ℕ × ℕ). g.0) ps) line ∙ numbers_beside (units_of z.face) gs in
    let beside : c.deref_mut-2.result.now ≡ map both (map (λ (g : ℕ × ℕ). g.0) c.deref_mut-2.result.now) =
    line ∙ ap (λ (ns : List ℕ). map both ns) (sym numbers) in
    let put : c.put_unit_steps.new.line ≡ stepped z.face.metrics step (map (λ (g : ℕ × ℕ). g.0) c.deref_mut-2.result.now) =
    (rw (c.metrics.ensures, c.face-face.ensures, c.ppem-ppem.ensures.exact) at (c.put_unit_steps.ensures (units_of z.face))) beside in
    let count : length c.put_unit_steps.new.line ≡ (with_items c.in_ok-steps.steps c.find_units.new.line).len =
    ap length put ∙ length-stepped z.face.metrics step (map (λ (g : ℕ × ℕ). g.0) c.deref_mut-2.result.now)
    ∙ length-map c.deref_mut-2.result.now (λ (g : ℕ × ℕ). g.0) ∙ c.deref_mut-2.ensures.len in
    with_items_is (with_items c.in_ok-steps.steps c.find_units.new.line) c.put_unit_steps.new.line count ∙ put
    ∙ ap (λ (ns : List ℕ). stepped z.face.metrics step ns) numbers

pub returns-clause-exact : goal.returns-clause-exact
returns-clause-exact c =
    let all = goal.at.returns-clause-exact c in
    let tested = rw (c.face-face.ensures, c.deref_mut.ensures.value, c.in_ok-steps.ensures.glyphs) at c.in_ok-find_units.ensures.exact in
    rw (steps_then all.After-put_unit_steps (found_then all.In_ok-find_units), tested) refl

pub returns-clause-glyphs : goal.returns-clause-glyphs
returns-clause-glyphs c =
    let all = goal.at.returns-clause-glyphs c in
    let z = c.args.self.now in
    let gs = text_glyphs z.face.cmap c.args.text.now in
    rw (steps_then all.After-put_unit_steps (found_then all.In_ok-find_units)) (firsts z.face.metrics (advance_step z.face z.ppem) gs)

pub returns-clause-known : goal.returns-clause-known
returns-clause-known c =
    let all = goal.at.returns-clause-known c in
    let z = c.args.self.now in
    let gs = text_glyphs z.face.cmap c.args.text.now in
    let m = z.face.metrics in
    let step = advance_step z.face z.ppem in
    let line = c.in_ok-steps.steps.items in
    rw (steps_then all.After-put_unit_steps (found_then all.In_ok-find_units))
    (known_alike (glyphs_of m) line (stepped m step gs) (c.in_ok-steps.ensures.glyphs ∙ sym (firsts m step gs)) c.in_ok-steps.ensures.known)

pub returns-clause-few : goal.returns-clause-few
returns-clause-few c =
    let all = goal.at.returns-clause-few c in
    let z = c.args.self.now in
    let gs = text_glyphs z.face.cmap c.args.text.now in
    let many : length c.in_ok-steps.steps.items ≡ length gs = sym (length-map c.in_ok-steps.steps.items (λ (g : ℕ × ℕ). g.0)) ∙ ap length c.in_ok-steps.ensures.glyphs in
    rw (steps_then all.After-put_unit_steps (found_then all.In_ok-find_units), length-stepped z.face.metrics (advance_step z.face z.ppem) gs, ← many) c.in_ok-steps.ensures.few

pub returns-clause-defects : goal.returns-clause-defects
returns-clause-defects c =
    rw (c.face-face.ensures, c.deref_mut.ensures.value, c.in_ok-steps.ensures.glyphs) at c.in_ok-find_units.ensures.sound
