use Rattle.std.proofs.Common.{◌≡◌, ◌∙◌, ap, sym, Option, None, ℕ}
use Rattle.tt_cmap.specs.declared.units.TextUnit.{TextUnit}
use Rattle.tt_cmap.specs.Maps.{glyph_of_unit}
use Rattle.tt_cmap.specs.Units.{plain_unit}
use Rattle.tt_line.proofs.known.KnownAdvances.step.Goals as goal

-- a unit without a selector is its character
is-plain : (u : TextUnit) → u.selector ≡ None → plain_unit u.character ≡ u
is-plain u none = ap (λ (v : Option ℕ). record { character = u.character; selector = v }) (sym none)

pub returns-in-None-clause-glyph : goal.returns-in-None-clause-glyph
returns-in-None-clause-glyph c =
    c.plain_step.ensures.glyph ∙ ap (glyph_of_unit c.args.self.now.cmap) (is-plain c.args.unit c.in-None.is)
