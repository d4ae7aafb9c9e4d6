use Rattle.tt_picture.proofs.Cached.{one_put}
use Rattle.tt_picture.proofs.cache.Cache.put.Goals as goal

pub returns-clause-cached : goal.returns-clause-cached
returns-clause-cached c = λ s one own.
    one_put s c.in-Some.glyphs c.keep.new.self c.args.number c.args.glyph c.keep.ensures.larger c.keep.ensures.entries one
    (rw (← c.self.view_is, c.in-Some.is) at own)
