use Rattle.tt_scan_gaps.proofs.Boxes.{between_near, near_fits}
use Rattle.tt_scan_gaps.proofs.columns.pixels_reached.Goals as goal

pub returns-clause-near : goal.returns-clause-near
returns-clause-near c =
    let b = c.args.extents in
    let fits = c.requires in (
      rw (c.reached.ensures, c.pixels_in.ensures.columns)
          (between_near c.args.dots b.across.low b.across.high fits.across.low fits.across.high),
      rw (c.reached-2.ensures, c.pixels_in.ensures.rows)
          (between_near c.args.dots b.up.low b.up.high fits.up.low fits.up.high),
    )

pub returns-clause-small : goal.returns-clause-small
returns-clause-small c =
    let near = returns-clause-near c in
    (near_fits c.reached.result near.0, near_fits c.reached-2.result near.1)
