use Rattle.std.proofs.Common.{◌∙◌, ap, sym, refl}
use Rattle.tt_picture.proofs.glyph.Glyph.unfitted.Goals as goal
use Rattle.tt_strike_kept.specs.declared.cut.GlyphFacts.{GlyphFacts}

pub returns-in-Some-clause-some : goal.returns-in-Some-clause-some
returns-in-Some-clause-some c =
    rw (← c.self.view_is) (ap (λ (f : GlyphFacts). f.unfitted) (sym c.facts.ensures) ∙ c.in-Some.is, refl)

pub returns-in-None-clause-none : goal.returns-in-None-clause-none
returns-in-None-clause-none c =
    rw (← c.self.view_is) (ap (λ (f : GlyphFacts). f.unfitted) (sym c.facts.ensures) ∙ c.in-None.is)
