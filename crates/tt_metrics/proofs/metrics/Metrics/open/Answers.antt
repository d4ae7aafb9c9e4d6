use Rattle.std.proofs.Common.{refl}
use Rattle.tt_metrics.specs.Head.{head_of}
use Rattle.tt_metrics.specs.Hhea.{hhea_of}
use Rattle.tt_metrics.specs.Hmtx.{hmtx_of}
use Rattle.tt_metrics.specs.Maxp.{maxp_of}
use Rattle.tt_metrics.specs.Metrics.{metrics_of}
use Rattle.tt_metrics.proofs.Whole.{metrics-whole}
use Rattle.tt_metrics.proofs.metrics.Metrics.open.Goals as goal

pub returns-clause-exact : goal.returns-clause-exact
unfolding metrics_of head_of maxp_of hhea_of hmtx_of
returns-clause-exact c =
    let long = rw c.from.ensures at c.in_ok-test_length.ensures.exact in
    rw (
      c.in_ok-needed.ensures.exact,
      c.in_ok-head.ensures.exact,
      c.in_ok-needed-2.ensures.exact,
      c.in_ok-maxp.ensures.exact,
      c.in_ok-needed-3.ensures.exact,
      c.in_ok-hhea.ensures.exact,
      c.in_ok-hmtx.ensures.exact,
      long,
    )
    refl

pub returns-clause-sound : goal.returns-clause-sound
returns-clause-sound c = metrics-whole c.args.dir.now _ (returns-clause-exact c)
