use Rattle.std.proofs.Common.{◌≡◌, ◌∙◌}
use Rattle.tt_strike.proofs.work.CountsLeft.without_glyph.Goals as goal

pub returns-in-Some : goal.returns-in-Some
returns-in-Some c =
    let counts = c.in-Some.ensures in
    let s = c.args.fitter.now in
    let points = c.from.ensures ∙ counts.points s c.requires.cache in
    let deltas = c.from-deltas.ensures ∙ counts.deltas s c.requires.cache in
    rw (points, deltas) at c.without.ensures
