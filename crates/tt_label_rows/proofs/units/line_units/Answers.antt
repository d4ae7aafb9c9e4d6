use Rattle.std.proofs.Common.{◌≡◌, ◌<◌, ◌∙◌, ap, ℕ, List, [], ◌∷◌, ◌++◌, append_assoc, append-nil, chars, length, map, refl, sym, arith}
use Rattle.std.proofs.lemmas.List.{length-map, map_push}
use Rattle.std.proofs.lemmas.List.Elements.{All-nil, All-push}
use Rattle.tt_cmap.specs.declared.units.TextUnit.{TextUnit}
use Rattle.tt_cmap.specs.Maps.{glyph_of_unit, has_pairs, units_by}
use Rattle.tt_cmap.proofs.UnitLaws.{units-are-few}
use Rattle.tt_label_rows.specs.Units.{unit_of}
use Rattle.tt_metrics.specs.Metrics.{glyphs_of}
use Rattle.tt_rows.specs.declared.unit.RowUnit.{RowUnit}
use Rattle.tt_label_rows.proofs.units.line_units.Goals as goal

pub loop-unit-preserved : goal.loop-unit-preserved
loop-unit-preserved c =
    let at = c.loop-unit in
    let so_far = at.invariant in
    let m = c.args.known.now.cmap in
    let f = unit_of m in
    let u = c.in-Some.unit in
    let pushed = c.in_ok-push.ensures.items in
    let glyph : c.glyph_of.result ≡ glyph_of_unit m u = rw so_far.same at c.glyph_of.ensures.exact in
    let within : c.glyph_of.result < glyphs_of c.args.known.now.metrics = rw so_far.same at c.glyph_of.ensures.known in
    record {
      split = append_assoc at.yielded (u ∷ []) _ ∙ rw (← c.in-Some.ensures.steps) so_far.split;
      units = rw (pushed, glyph, so_far.units, map_push f at.yielded u) refl;
      same = c.glyph_of.ensures.same ∙ so_far.same;
      known = rw pushed (All-push (λ (u : RowUnit). u.glyph < glyphs_of c.args.known.now.metrics) at.made.items _ so_far.known within);
    }

pub returns-clause-exact : goal.returns-clause-exact
returns-clause-exact c =
    let at = c.loop-unit in
    let none : at.unit-iterator ≡ [] = c.in-None.ensures.steps.0 in
    let all : at.yielded ≡ units_by c.args.known.now.cmap (chars c.args.line.now) = sym (append-nil at.yielded) ∙ rw none at at.invariant.split in
    rw (← all) at.invariant.units

pub returns-clause-few : goal.returns-clause-few
returns-clause-few c =
    let us = units_by c.args.known.now.cmap (chars c.args.line.now) in
    let many = ap length (returns-clause-exact c) ∙ length-map us (unit_of c.args.known.now.cmap) in
    let few = units-are-few (has_pairs c.args.known.now.cmap) (chars c.args.line.now) in
    omega (arith, many, few)
