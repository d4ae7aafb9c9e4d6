use Rattle.std.proofs.Common.{◌≡◌, ◌∙◌, ◌<◌, All, chars, refl, sym, arith}
use Rattle.std.proofs.lemmas.List.Elements.{All-push}
use Rattle.tt_cmap.specs.declared.units.TextUnit.{TextUnit}
use Rattle.tt_cmap.specs.Maps.{glyph_of_unit, units_by}
use Rattle.tt_cmap.proofs.WithoutGlyphs.{full_texts}
use Rattle.tt_line.proofs.Walks.{at-the-end, goes-on, holds-next}
use Rattle.tt_line.proofs.known.KnownAdvances.has_all.Goals as goal

pub loop-unit-preserved : goal.loop-unit-preserved
loop-unit-preserved c =
    let m = c.args.self.now.cmap in
    let u = c.in-Some.unit in
    let us = units_by m (chars c.args.text.now) in
    let was = c.loop-unit.invariant in
    let glyph : c.step-glyph.result.glyph ≡ glyph_of_unit m u = rw was.same at c.step-glyph.ensures.glyph in
    let some : 0 < glyph_of_unit m u = omega (arith, glyph, c.if-glyph-eq0.false) in
    record {
      split = goes-on c.loop-unit.yielded c.loop-unit.unit-iterator _ us u c.in-Some.ensures.steps was.split;
      have = All-push (λ (v : TextUnit). 0 < glyph_of_unit m v) c.loop-unit.yielded u was.have some;
      same = c.step-glyph.ensures.same ∙ was.same;
    }

pub returns-then-glyph-eq0-clause-exact : goal.returns-then-glyph-eq0-clause-exact
returns-then-glyph-eq0-clause-exact c =
    let m = c.args.self.now.cmap in
    let u = c.in-Some.unit in
    let cs = chars c.args.text.now in
    let was = c.loop-unit.invariant in
    let glyph : c.step-glyph.result.glyph ≡ glyph_of_unit m u = rw was.same at c.step-glyph.ensures.glyph in
    let none : glyph_of_unit m u ≡ 0 = sym glyph ∙ c.if-glyph-eq0.true in
    let one = holds-next (λ (v : TextUnit). 0 < glyph_of_unit m v) c.loop-unit.yielded c.loop-unit.unit-iterator _
    (units_by m cs) u c.in-Some.ensures.steps was.split in (
      λ full. absurd cc,
      λ full. absurd (omega (arith, one ((full_texts m cs).0 full), none)),
    )

pub returns-clause-exact : goal.returns-clause-exact
returns-clause-exact c =
    let m = c.args.self.now.cmap in
    let cs = chars c.args.text.now in
    let was = c.loop-unit.invariant in
    let all = at-the-end c.loop-unit.yielded c.loop-unit.unit-iterator (units_by m cs) c.in-None.ensures.steps.0 was.split in
    let have : All (λ (v : TextUnit). 0 < glyph_of_unit m v) (units_by m cs) = rw (← all) was.have in (
      λ full. (full_texts m cs).1 have,
      λ none. refl,
    )
