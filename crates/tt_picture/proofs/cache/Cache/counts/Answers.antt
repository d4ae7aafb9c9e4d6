use Rattle.std.proofs.Common.{◌∙◌, sym}
use Rattle.tt_picture.proofs.Cached.{deltas_found, points_found}
use Rattle.tt_picture.proofs.cache.Cache.counts.Goals as goal

pub returns-in-Some-clause-points : goal.returns-in-Some-clause-points
returns-in-Some-clause-points c =
    points_found c.args.number c.in-Some.glyphs c.args.self.now c.counts.result (sym c.self.view_is ∙ c.in-Some.is)
    c.counts.ensures

pub returns-in-Some-clause-deltas : goal.returns-in-Some-clause-deltas
returns-in-Some-clause-deltas c =
    deltas_found c.args.number c.in-Some.glyphs c.args.self.now c.counts.result (sym c.self.view_is ∙ c.in-Some.is)
    c.counts.ensures
