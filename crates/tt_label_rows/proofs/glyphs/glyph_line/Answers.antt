use Rattle.std.proofs.Common.{◌≡◌, ℕ, map, refl}
use Rattle.std.proofs.lemmas.Simd.{map-map}
use Rattle.tt_rows.specs.declared.unit.RowUnit.{RowUnit}
use Rattle.tt_label_rows.proofs.glyphs.glyph_line.Goals as goal

pub returns-clause-exact : goal.returns-clause-exact
returns-clause-exact c = rw (c.in_ok-push_glyphs.ensures, c.in_ok-made.ensures.items) refl

pub returns-clause-numbers : goal.returns-clause-numbers
returns-clause-numbers c =
    rw (returns-clause-exact c) (map-map (λ (g : ℕ × ℕ). g.0) (λ (u : RowUnit). (u.glyph, 0)) c.args.units.now)
