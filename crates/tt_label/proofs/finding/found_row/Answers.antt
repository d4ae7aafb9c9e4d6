use Rattle.std.proofs.Common.{◌≡◌, ◌∙◌, ◌<◌, ap, ℕ, List, length, map, refl, sym}
use Rattle.std.proofs.lemmas.List.{length-map, with_items_is}
use Rattle.std.proofs.lemmas.List.Elements.{All-map}
use Rattle.std.proofs.lemmas.Result.{err_from_is_err_and}
use Rattle.std.specs.Vec.{with_items}
use Rattle.tt_advances.proofs.Finding.{then_value}
use Rattle.tt_advances.specs.Found.{all_found, glyph_units, or_zero}
use Rattle.tt_label_rows.specs.Units.{unit_glyphs}
use Rattle.tt_line.proofs.Stepped.{numbers_beside}
use Rattle.tt_metrics.specs.Metrics.{glyphs_of}
use Rattle.tt_rows.specs.declared.unit.RowUnit.{RowUnit}
use Rattle.tt_label.proofs.finding.found_row.Goals.{In_ok-put}
use Rattle.tt_label.proofs.finding.found_row.Goals as goal

pub put-requires : goal.put-requires
put-requires c =
    let m = c.args.metrics.now in
    rw (c.deref_mut.ensures.value, c.in_ok-line.ensures.exact, ← c.requires.metrics)
    (All-map (λ (g : ℕ × ℕ). g.0 < glyphs_of m) (λ (u : RowUnit). (u.glyph, 0)) c.args.units.now c.requires.known)

pub returns-in_err-put-clause-exact : goal.returns-in_err-put-clause-exact
returns-in_err-put-clause-exact c =
    let z = c.args.found.now in
    let gs = unit_glyphs c.args.units.now in
    let found = glyph_units z.face.instance z.face.metrics z.tables in
    let p = err_from_is_err_and c.from_residual-in_err-put.result c.from_residual-in_err-put.ensures.1 in
    let fails = rw (c.deref_mut.ensures.value, c.in_ok-line.ensures.numbers) at c.in_err-put.ensures.exact in
    rw (p.1, p.2) (then_value (all_found found gs) _ c.in_err-put.field-0.0 fails)

-- the advances stand beside the glyphs of the units
found_then : (c : In_ok-put) → (with_items c.in_ok-line.line c.put.new.line).items
    ≡ map (λ g. (g, or_zero (glyph_units c.args.found.now.face.instance c.args.found.now.face.metrics c.args.found.now.tables g))) (unit_glyphs c.args.units.now)
found_then c =
    let z = c.args.found.now in
    let gs = unit_glyphs c.args.units.now in
    let both : ℕ → ℕ × ℕ = λ g. (g, or_zero (glyph_units z.face.instance z.face.metrics z.tables g)) in
    let are : c.put.new.line ≡ map both gs = rw (c.deref_mut.ensures.value, c.in_ok-line.ensures.numbers) at c.in_ok-put.ensures.units in
    let many : length c.in_ok-line.line.items ≡ length gs =
    sym (length-map c.in_ok-line.line.items (λ (g : ℕ × ℕ). g.0)) ∙ ap length c.in_ok-line.ensures.numbers in
    let count : length c.put.new.line ≡ c.in_ok-line.line.len =
    ap length are ∙ length-map gs both ∙ sym many ∙ sym (ap length c.deref_mut.ensures.value) ∙ c.deref_mut.ensures.len in
    with_items_is c.in_ok-line.line c.put.new.line count ∙ are

pub unit_row-requires-clause-line : goal.unit_row-requires-clause-line
unit_row-requires-clause-line c =
    let all = goal.at.unit_row-requires-clause-line c in
    let z = c.args.found.now in
    let units : ℕ → ℕ = λ g. or_zero (glyph_units z.face.instance z.face.metrics z.tables g) in
    rw (c.deref.ensures.value, found_then all.In_ok-put) (numbers_beside units (unit_glyphs c.args.units.now))

pub unit_row-requires-clause-bound : goal.unit_row-requires-clause-bound
unit_row-requires-clause-bound c =
    let all = goal.at.unit_row-requires-clause-bound c in
    let are = rw (c.deref_mut.ensures.value, c.in_ok-line.ensures.numbers) at c.in_ok-put.ensures.units in
    rw (c.deref.ensures.value, found_then all.In_ok-put, ← are) c.in_ok-put.ensures.bound

pub returns-clause-exact : goal.returns-clause-exact
returns-clause-exact c =
    let all = goal.at.returns-clause-exact c in
    let z = c.args.found.now in
    let units : ℕ → ℕ = λ g. or_zero (glyph_units z.face.instance z.face.metrics z.tables g) in
    let tested = rw (c.deref_mut.ensures.value, c.in_ok-line.ensures.numbers) at c.in_ok-put.ensures.exact in
    let made = (rw c.requires.metrics at (c.in_ok-unit_row.ensures units)) (rw c.deref.ensures.value (found_then all.In_ok-put)) in
    rw (tested, made) refl
