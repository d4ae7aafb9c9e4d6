use Rattle.std.proofs.Common.{◌≡◌, ◌∙◌, true, refl, sym, rules}
use Rattle.tt_core.proofs.Numbers.{number_told}
use Rattle.tt_metrics.specs.Head.{head_in, is_em}
use Rattle.tt_metrics.proofs.head.HeadFields.read.Goals.{in-0, in-1}
use Rattle.tt_metrics.proofs.head.HeadFields.read.Goals as goal

pub returns-clause-exact : goal.returns-clause-exact
unfolding head_in
returns-clause-exact c =
    let head = c.args.head.now in
    let magic = number_told head 12 4 c.unwrap.result (sym c.u32_at.ensures ∙ c.unwrap.ensures) in
    let em = number_told head 18 2 c.unwrap-units_per_em.result
    (sym c.u16_at.ensures ∙ c.unwrap-units_per_em.ensures) in
    let within : is_em c.unwrap-units_per_em.result ≡ true = search rules in
    let format = number_told head 50 2 c.unwrap-2.result (sym c.u16_at-2.ensures ∙ c.unwrap-2.ensures) in
    rw (c.in_ok-test_length.ensures.exact, magic, c.if-unwrap-ne1594834165.false, em, within, format)
    (elim c.match-unwrap.branch [
      | in-0 w ↦ rw (w.in-0.is, w.loca_format-is) refl
      | in-1 w ↦ rw (w.in-1.is, w.loca_format-is) refl
    ])
