use Rattle.std.proofs.Common.{◌∙◌, ap, sym, ◌≤◌, length, arith}
use Rattle.std.proofs.lemmas.List.{take_all}
use Rattle.std.proofs.lemmas.List.Elements.{All-more}
use Rattle.tt_glyphs.specs.declared.ruled.TriedGlyph.{TriedGlyph}
use Rattle.tt_glyphs.specs.Tried.{IsMadeBody}
use Rattle.tt_glyphs.proofs.Refused.{all_made, first_refused}
use Rattle.tt_glyphs.proofs.outlines.test_outlines.Goals as goal

pub returns-in-Refused-clause-fault : goal.returns-in-Refused-clause-fault
returns-in-Refused-clause-fault c = λ maker tried.
    first_refused maker c.args.tried.now c.loop-glyph.glyph-index c.glyph-item.result c.in-Refused.fault tried
    c.loop-glyph.invariant c.loop-glyph-test.true (ap (λ (t : TriedGlyph). t.body) (sym c.glyph-item.is) ∙ c.in-Refused.is)

pub returns-in-Refused-clause-sound : goal.returns-in-Refused-clause-sound
returns-in-Refused-clause-sound c = tt

pub loop-glyph-preserved : goal.loop-glyph-preserved
loop-glyph-preserved c =
    let made : IsMadeBody c.glyph-item.result.body = rw c.in_default.is tt in
    All-more (λ (t : TriedGlyph). IsMadeBody t.body) c.args.tried.now c.loop-glyph.glyph-index c.glyph-item.result
    c.loop-glyph-test.true c.loop-glyph.invariant (rw (sym c.glyph-item.is) made)

pub returns-clause-sound : goal.returns-clause-sound
returns-clause-sound c = λ maker tried.
    let over : length c.args.tried.now ≤ c.loop-glyph.glyph-index = omega (arith, c.loop-glyph-test.false) in
    all_made maker c.args.tried.now tried (rw (take_all c.loop-glyph.glyph-index c.args.tried.now over) at c.loop-glyph.invariant)
