use Rattle.std.proofs.Common.{◌≡◌, ◌∙◌, false, refl, sym, rules}
use Rattle.std.specs.Prelude.{◌==◌}
use Rattle.tt_core.proofs.Numbers.{number_told}
use Rattle.tt_metrics.specs.Maxp.{maxp_in}
use Rattle.tt_metrics.proofs.maxp.MaxpFields.read.Goals as goal

pub returns-clause-exact : goal.returns-clause-exact
unfolding maxp_in
returns-clause-exact c =
    let version = number_told c.args.maxp.now 0 4 c.unwrap.result (sym c.u32_at.ensures ∙ c.unwrap.ensures) in
    let maxp = c.args.maxp.now in
    let glyphs = number_told maxp 4 2 c.unwrap-glyphs.result (sym c.u16_at.ensures ∙ c.unwrap-glyphs.ensures) in
    let some : (c.unwrap-glyphs.result == 0) ≡ false = search rules in
    let twilight = number_told maxp 16 2 c.unwrap-2.result (sym c.u16_at-2.ensures ∙ c.unwrap-2.ensures) in
    let storage = number_told maxp 18 2 c.unwrap-3.result (sym c.u16_at-3.ensures ∙ c.unwrap-3.ensures) in
    rw (
      c.in_ok-test_length.ensures.exact,
      version,
      c.if-unwrap-ne65536.false,
      c.in_ok-test_length-2.ensures.exact,
      glyphs,
      some,
      twilight,
      storage,
    ) refl
