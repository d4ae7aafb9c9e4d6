use Rattle.tt_strike.proofs.Caches.{bytes_within}
use Rattle.tt_strike.proofs.strike.Strike.kept_bytes.Goals as goal

pub returns-clause-most : goal.returns-clause-most
returns-clause-most c =
    rw (← c.self.view_is) (bytes_within c.self.inside.most c.bytes.result c.self.inside.cache c.bytes.ensures.exact
    c.bytes.ensures.limit c.self.invariant.1)
