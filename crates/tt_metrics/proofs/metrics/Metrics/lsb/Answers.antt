use Rattle.std.proofs.Common.{◌≡◌, SFits, w16, refl, rules}
use Rattle.std.proofs.lemmas.Int.{to_z-of_z}
use Rattle.tt_metrics.specs.Hmtx.{bearing_place}
use Rattle.tt_metrics.proofs.metrics.Metrics.lsb.Goals as goal

pub returns : goal.returns
returns c =
    let fits : SFits w16 c.unwrap_or.result = search rules in
    let place : c.if-g-n.place ≡ bearing_place c.self.inside.hhea.long_metrics c.args.g = search rules in
    simp to_z-of_z (rw (← c.self.view_is, c.unwrap_or.ensures, c.i16_at.ensures, place) refl)
