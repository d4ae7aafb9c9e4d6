use Rattle.std.proofs.Common.{refl}
use Rattle.tt_strike.proofs.Caches.{fresh_empty, fresh_limit, fresh_of}
use Rattle.tt_strike.proofs.strike.Strike.new.Goals as goal

pub invariant_of-result : goal.invariant_of-result
invariant_of-result c =
    let fresh = c.in_ok-cache.ensures in (
      rw c.in_ok-sized.ensures.exact (fresh_of (record { face = c.args.face.now; ppem = c.args.ppem; fit = c.args.fit })
          c.args.most c.in_ok-cache.cache fresh),
      fresh_limit c.args.most c.in_ok-cache.cache fresh,
    )

pub returns-clause-exact : goal.returns-clause-exact
returns-clause-exact c =
    rw (c.in_ok-sized.ensures.exact, fresh_empty c.args.most c.in_ok-cache.cache c.in_ok-cache.ensures) refl
