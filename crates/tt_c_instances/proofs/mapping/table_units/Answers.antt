use Rattle.std.proofs.Common.{◌≡◌, ◌<◌, ◌∙◌, ℕ, List, chars, sym}
use Rattle.std.proofs.lemmas.Iterator.Consumers.{YieldsList-from_first, YieldsList-end}
use Rattle.std.proofs.lemmas.List.{map-id, map_push}
use Rattle.std.proofs.lemmas.Simd.{map-map}
use Rattle.std.proofs.lemmas.List.Elements.{All-push}
use Rattle.tt_cmap.specs.declared.units.TextUnit.{TextUnit}
use Rattle.tt_cmap.specs.Maps.{glyph_of_unit, units_by}
use Rattle.tt_metrics.specs.Metrics.{advance_of, glyphs_of}
use Rattle.tt_c_instances.proofs.mapping.table_units.Goals as goal

pub loop-unit-preserved : goal.loop-unit-preserved
loop-unit-preserved c =
    let face = c.args.face.now in
    let told : TextUnit → ℕ × ℕ = λ u. (glyph_of_unit face.cmap u, advance_of face.metrics (glyph_of_unit face.cmap u)) in
    let is : c.glyph_of_unit-glyph.result ≡ glyph_of_unit face.cmap c.in-Some.unit =
    rw c.cmap-cmap.ensures.exact at c.glyph_of_unit-glyph.ensures.exact in
    let bound = rw (c.cmap-cmap.ensures.glyphs) at c.glyph_of_unit-glyph.ensures.bound in
    let within : glyph_of_unit face.cmap c.in-Some.unit < glyphs_of face.metrics = rw is at bound in
    let units : c.advance.result ≡ advance_of face.metrics (glyph_of_unit face.cmap c.in-Some.unit) =
    rw (c.metrics.ensures, is) at c.advance.ensures in
    record {
      glyphs = rw (c.in_ok-push.ensures.items, c.from.ensures, units, is, c.loop-unit.invariant.glyphs)
          (sym (map_push told c.loop-unit.yielded c.in-Some.unit));
      known = rw (c.in_ok-push.ensures.items, c.from.ensures, units, is)
          (All-push (λ (g : ℕ × ℕ). g.0 < glyphs_of face.metrics) c.loop-unit.glyphs.items (told c.in-Some.unit)
          c.loop-unit.invariant.known within);
    }

pub returns-clause-exact : goal.returns-clause-exact
returns-clause-exact c =
    let face = c.args.face.now in
    let us = units_by face.cmap (chars c.args.text.now) in
    let from : c.units-unit-items.result ≡ us = rw c.cmap-cmap.ensures.exact at c.units-unit-items.ensures in
    let units = YieldsList-from_first (λ (u : TextUnit). u) (λ (left : List TextUnit). left) us cc in
    let e = YieldsList-end units c.loop-unit.yielded c.loop-unit.unit-iterator c.loop-unit.yielded_by c.next.result
    c.next.new.self c.in-None.is c.next.ensures.steps in
    let all : c.loop-unit.yielded ≡ us = sym (map-id c.loop-unit.yielded) ∙ e.0 in
    (rw all at c.loop-unit.invariant.glyphs)
    ∙ sym (map-map (λ (g : ℕ). (g, advance_of face.metrics g)) (glyph_of_unit face.cmap) us)
