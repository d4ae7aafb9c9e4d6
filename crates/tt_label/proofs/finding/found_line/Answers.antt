use Rattle.std.proofs.Common.{◌≡◌, ◌∙◌, ap, ℕ, List, length, map, refl, sym}
use Rattle.std.proofs.lemmas.List.{length-map, with_items_is}
use Rattle.std.proofs.lemmas.Result.{err_from_is_err_and}
use Rattle.std.specs.Vec.{with_items}
use Rattle.tt_advances.proofs.Finding.{then_value}
use Rattle.tt_advances.specs.Found.{all_found, glyph_units, or_zero}
use Rattle.tt_line.specs.Steps.{step_by_units, stepped}
use Rattle.tt_line.proofs.Stepped.{length-stepped, numbers_beside}
use Rattle.tt_label.proofs.finding.found_line.Goals.{After-put_unit_steps, In_ok-put}
use Rattle.tt_label.proofs.finding.found_line.Goals as goal

pub put-requires : goal.put-requires
put-requires c = rw (c.deref_mut.ensures.value, ← c.requires.metrics) c.requires.known

pub returns-in_err-put-clause-exact : goal.returns-in_err-put-clause-exact
returns-in_err-put-clause-exact c =
    let z = c.args.found.now in
    let gs = map (λ (g : ℕ × ℕ). g.0) c.args.line.items in
    let found = glyph_units z.face.instance z.face.metrics z.tables in
    let p = err_from_is_err_and c.from_residual.result c.from_residual.ensures.1 in
    let fails = rw c.deref_mut.ensures.value at c.in_err-put.ensures.exact in
    rw (p.1, p.2) (then_value (all_found found gs) _ c.in_err-put.field-0.0 fails)

-- the advances stand beside the glyphs
found_then : (c : In_ok-put) → (with_items c.args.line c.put.new.line).items
    ≡ map (λ g. (g, or_zero (glyph_units c.args.found.now.face.instance c.args.found.now.face.metrics c.args.found.now.tables g))) (map (λ (g : ℕ × ℕ). g.0) c.args.line.items)
found_then c =
    let z = c.args.found.now in
    let gs = map (λ (g : ℕ × ℕ). g.0) c.args.line.items in
    let both : ℕ → ℕ × ℕ = λ g. (g, or_zero (glyph_units z.face.instance z.face.metrics z.tables g)) in
    let are : c.put.new.line ≡ map both gs = rw c.deref_mut.ensures.value at c.in_ok-put.ensures.units in
    let count : length c.put.new.line ≡ c.args.line.len =
    ap length are ∙ length-map gs both ∙ length-map c.args.line.items (λ (g : ℕ × ℕ). g.0) ∙ sym (ap length c.deref_mut.ensures.value) ∙ c.deref_mut.ensures.len in
    with_items_is c.args.line c.put.new.line count ∙ are

pub put_unit_steps-requires-clause-units : goal.put_unit_steps-requires-clause-units
put_unit_steps-requires-clause-units c =
    let all = goal.at.put_unit_steps-requires-clause-units c in
    let are = rw c.deref_mut.ensures.value at c.in_ok-put.ensures.units in
    rw (c.deref_mut-2.ensures.value, found_then all.In_ok-put, ← are) c.in_ok-put.ensures.bound

steps_then : (c : After-put_unit_steps) → (with_items c.args.line c.put.new.line).items
    ≡ map (λ g. (g, or_zero (glyph_units c.args.found.now.face.instance c.args.found.now.face.metrics c.args.found.now.tables g))) (map (λ (g : ℕ × ℕ). g.0) c.args.line.items)
    → (with_items (with_items c.args.line c.put.new.line) c.put_unit_steps.new.line).items
    ≡ stepped c.args.found.now.face.metrics (step_by_units c.args.found.now.face.metrics c.args.ppem
    (λ g. or_zero (glyph_units c.args.found.now.face.instance c.args.found.now.face.metrics c.args.found.now.tables g))) (map (λ (g : ℕ × ℕ). g.0) c.args.line.items)
steps_then c found =
    let z = c.args.found.now in
    let m = z.face.metrics in
    let gs = map (λ (g : ℕ × ℕ). g.0) c.args.line.items in
    let units : ℕ → ℕ = λ g. or_zero (glyph_units z.face.instance m z.tables g) in
    let both : ℕ → ℕ × ℕ = λ g. (g, units g) in
    let step = step_by_units m c.args.ppem units in
    let line : c.deref_mut-2.result.now ≡ map both gs = c.deref_mut-2.ensures.value ∙ found in
    let numbers : map (λ (g : ℕ × ℕ). g.0) c.deref_mut-2.result.now ≡ gs =
    ap (λ (ps : List (ℕ × ℕ)). map (λ (g : ℕ × ℕ). g.0) ps) line ∙ numbers_beside units gs in
    let beside : c.deref_mut-2.result.now ≡ map both (map (λ (g : ℕ × ℕ). g.0) c.deref_mut-2.result.now) =
    line ∙ ap (λ (ns : List ℕ). map both ns) (sym numbers) in
    let put : c.put_unit_steps.new.line ≡ stepped m step (map (λ (g : ℕ × ℕ). g.0) c.deref_mut-2.result.now) =
    (rw c.requires.metrics at (c.put_unit_steps.ensures units)) beside in
    let count : length c.put_unit_steps.new.line ≡ (with_items c.args.line c.put.new.line).len =
    ap length put ∙ length-stepped m step (map (λ (g : ℕ × ℕ). g.0) c.deref_mut-2.result.now)
    ∙ length-map c.deref_mut-2.result.now (λ (g : ℕ × ℕ). g.0) ∙ c.deref_mut-2.ensures.len in
    with_items_is (with_items c.args.line c.put.new.line) c.put_unit_steps.new.line count ∙ put ∙ ap (λ (ns : List ℕ). stepped m step ns) numbers

pub returns-clause-exact : goal.returns-clause-exact
returns-clause-exact c =
    let all = goal.at.returns-clause-exact c in
    let tested = rw c.deref_mut.ensures.value at c.in_ok-put.ensures.exact in
    rw (tested, steps_then all.After-put_unit_steps (found_then all.In_ok-put)) refl
