use Rattle.std.proofs.Common.{ℕ, List, chars, map, sym}
use Rattle.std.proofs.lemmas.Iterator.{YieldsList-from_slice, YieldsList-from_zip}
use Rattle.std.proofs.lemmas.Iterator.Consumers.{YieldsList-end, YieldsList-from_first}
use Rattle.std.proofs.lemmas.List.{map_push}
use Rattle.tt_cmap.specs.declared.units.TextUnit.{TextUnit}
use Rattle.tt_cmap.specs.Maps.{units_by}
use Rattle.tt_c_instances.specs.Maps.{glyph_with}
use Rattle.tt_c_instances.proofs.mapping.all_told.Goals as goal

pub loop-unit-preserved : goal.loop-unit-preserved
loop-unit-preserved c =
    let show : _ → TextUnit × (ℕ × ℕ) = λ p. (p.0, p.1.now) in
    let x : TextUnit × (ℕ × ℕ) = (c.in-Some.unit, c.in-Some.glyph.now) in
    let next = map_push show c.loop-unit.yielded (c.in-Some.unit, c.in-Some.glyph) in
    rw (c.in_ok-push.ensures.items, c.glyph_with.ensures, c.loop-unit.invariant, next)
    (sym (map_push glyph_with (map show c.loop-unit.yielded) x))

pub returns : goal.returns
returns c =
    let us = units_by c.args.cmap.now (chars c.args.text.now) in
    let units = YieldsList-from_first (λ (u : TextUnit). u) (λ (left : List TextUnit). left) us cc in
    let glyphs = YieldsList-from_slice c.args.found.now cc in
    let e = YieldsList-end (YieldsList-from_zip units glyphs) c.loop-unit.yielded
    c.loop-unit.unit-iterator c.loop-unit.yielded_by c.next.result c.next.new.self c.in-None.is c.next.ensures.steps in
    rw e.0 at c.loop-unit.invariant
