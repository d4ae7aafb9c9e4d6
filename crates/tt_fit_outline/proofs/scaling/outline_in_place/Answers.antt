use Rattle.std.proofs.Common.{length, refl}
use Rattle.tt_fit_outline.specs.Outline.{phantom_of}
use Rattle.tt_fit_outline.proofs.Outlines.{scaled-is}
use Rattle.tt_fit_outline.proofs.scaling.outline_in_place.Goals as goal

pub invariant_of-result : goal.invariant_of-result
invariant_of-result c =
    record {
      valid = scaled-is c.args.points.items c.in_ok-ends.ends.items c.args.last_points.now (length c.args.points.items)
          (phantom_of c.args.start.phantom) refl c.requires.few c.requires.coordinates
          c.requires.ends c.in_ok-ends.ensures c.args.start.valid.phantom;
    }
