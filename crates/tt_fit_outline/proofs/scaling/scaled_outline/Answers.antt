use Rattle.std.proofs.Common.{length}
use Rattle.tt_fit_outline.specs.Outline.{phantom_of}
use Rattle.tt_fit_outline.proofs.Outlines.{scaled-is}
use Rattle.tt_fit_outline.proofs.scaling.scaled_outline.Goals as goal

pub invariant_of-result : goal.invariant_of-result
invariant_of-result c =
    record {
      valid = scaled-is c.in_ok-points.points.items c.in_ok-ends.ends.items c.args.last_points.now (length c.args.points.now)
          (phantom_of c.args.start.phantom) c.in_ok-points.ensures.count c.requires.few c.in_ok-points.ensures.coordinates
          c.requires.ends c.in_ok-ends.ensures c.args.start.valid.phantom;
    }
