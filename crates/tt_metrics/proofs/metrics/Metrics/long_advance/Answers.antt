use Rattle.std.proofs.Common.{◌-◌, ◌*◌, ◌∙◌, min, sym}
use Rattle.tt_core.proofs.Numbers.{number_told}
use Rattle.tt_metrics.proofs.metrics.Metrics.long_advance.Goals as goal

pub returns : goal.returns
returns c =
    let told = rw (c.from.ensures, c.min.ensures) at (sym c.u16_at.ensures ∙ c.unwrap.ensures) in
    let m = c.self.inside in
    rw (← c.self.view_is) (sym (number_told m.hmtx.now (4 * min c.args.g (m.hhea.long_metrics - 1)) 2 c.unwrap.result told))
