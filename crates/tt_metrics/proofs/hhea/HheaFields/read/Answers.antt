use Rattle.std.proofs.Common.{◌≡◌, ◌∙◌, false, SFits, w16, refl, sym, rules}
use Rattle.std.specs.Prelude.{◌==◌}
use Rattle.std.proofs.lemmas.Int.{to_z-of_z}
use Rattle.tt_core.proofs.Numbers.{number_told, signed_told}
use Rattle.tt_metrics.specs.Hhea.{hhea_in}
use Rattle.tt_metrics.proofs.hhea.HheaFields.read.Goals as goal

pub returns-clause-exact : goal.returns-clause-exact
unfolding hhea_in
returns-clause-exact c =
    let hhea = c.args.hhea.now in
    let long = number_told hhea 34 2 c.unwrap-long_metrics.result
    (sym c.u16_at.ensures ∙ c.unwrap-long_metrics.ensures) in
    let some : (c.unwrap-long_metrics.result == 0) ≡ false = search rules in
    let ascent = signed_told hhea 4 c.unwrap.result (sym c.i16_at.ensures ∙ c.unwrap.ensures) in
    let descent = signed_told hhea 6 c.unwrap-2.result (sym c.i16_at-2.ensures ∙ c.unwrap-2.ensures) in
    let gap = signed_told hhea 8 c.unwrap-3.result (sym c.i16_at-3.ensures ∙ c.unwrap-3.ensures) in
    let up : SFits w16 c.unwrap.result = search rules in
    let down : SFits w16 c.unwrap-2.result = search rules in
    let apart : SFits w16 c.unwrap-3.result = search rules in
    simp to_z-of_z (rw (c.in_ok-test_length.ensures.exact, long, some, ascent, descent, gap) refl)
