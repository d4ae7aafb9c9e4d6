use Rattle.std.proofs.Common.{◌≡◌, ◌∙◌, ℕ, length, map}
use Rattle.std.proofs.lemmas.List.{length-map, with_items_is}
use Rattle.std.proofs.lemmas.Result.{err_from_is_err_and}
use Rattle.tt_advances.proofs.Finding.{then_value}
use Rattle.tt_advances.specs.Found.{advances_tested, units_of}
use Rattle.tt_line.specs.Layout.{text_glyphs}
use Rattle.tt_metrics.specs.Metrics.{advance_of}
use Rattle.tt_c_instances.proofs.UnitsFound.{all_units, table_units, their_glyphs}
use Rattle.tt_c_instances.proofs.mapping.units_found.Goals.{then-finds_advances+in_ok-find_units, else-finds_advances}
use Rattle.tt_c_instances.proofs.mapping.units_found.Goals as goal

pub returns-clause-exact : goal.returns-clause-exact
returns-clause-exact c =
    let face = c.args.face.now in
    let gs = text_glyphs face.cmap c.args.text.now in
    let was = c.in_ok-glyphs.glyphs in
    elim c.if-finds_advances.branch [
      | then-finds_advances+in_ok-find_units w ↦
          let new = w.find_units.new.line in
          let old : w.deref_mut.result.now ≡ map (λ g. (g, advance_of face.metrics g)) gs =
          w.deref_mut.ensures.value ∙ c.in_ok-glyphs.ensures.exact in
          let same : map (λ (p : ℕ × ℕ). p.0) w.deref_mut.result.now ≡ gs = rw old (their_glyphs (advance_of face.metrics) gs) in
          let found : new ≡ map (λ g. (g, units_of face g)) gs = rw same at w.in_ok-find_units.ensures.units in
          let count : length new ≡ was.len =
          rw (w.in_ok-find_units.ensures.units, length-map, length-map) w.deref_mut.ensures.len in
          rw (w.glyphs-is, with_items_is was new count) (all_units face gs new (rw same at w.in_ok-find_units.ensures.exact) found)
      | else-finds_advances w ↦
          rw w.glyphs-is (table_units face gs was.items (rw c.finds_advances.ensures at w.if-finds_advances.false) c.in_ok-glyphs.ensures.exact)
    ]

pub returns-in_err-find_units-clause-exact : goal.returns-in_err-find_units-clause-exact
returns-in_err-find_units-clause-exact c =
    let face = c.args.face.now in
    let gs = text_glyphs face.cmap c.args.text.now in
    let p = err_from_is_err_and c.from_residual-in_err-find_units.result c.from_residual-in_err-find_units.ensures.1 in
    let old : c.deref_mut.result.now ≡ map (λ g. (g, advance_of face.metrics g)) gs = c.deref_mut.ensures.value ∙ c.in_ok-glyphs.ensures.exact in
    let same : map (λ (p : ℕ × ℕ). p.0) c.deref_mut.result.now ≡ gs = rw old (their_glyphs (advance_of face.metrics) gs) in
    let fails = rw same at c.in_err-find_units.ensures.exact in
    rw (p.1, p.2) (then_value (advances_tested face gs) (map (λ g. (g, units_of face g)) gs) c.in_err-find_units.field-0.0 fails)

pub returns-in_err-find_units-clause-defects : goal.returns-in_err-find_units-clause-defects
returns-in_err-find_units-clause-defects c =
    let face = c.args.face.now in
    let gs = text_glyphs face.cmap c.args.text.now in
    let p = err_from_is_err_and c.from_residual-in_err-find_units.result c.from_residual-in_err-find_units.ensures.1 in
    let old : c.deref_mut.result.now ≡ map (λ g. (g, advance_of face.metrics g)) gs = c.deref_mut.ensures.value ∙ c.in_ok-glyphs.ensures.exact in
    let same : map (λ (p : ℕ × ℕ). p.0) c.deref_mut.result.now ≡ gs = rw old (their_glyphs (advance_of face.metrics) gs) in
    rw (p.1, p.2) (rw same at c.in_err-find_units.ensures.fault)
