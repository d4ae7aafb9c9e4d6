use Rattle.std.proofs.Common.{◌≡◌, refl}
use Rattle.tt_fit.proofs.Falling.{unbounded-stays}
use Rattle.tt_fit.specs.outline.Views.{outline_of}
use Rattle.tt_fit.specs.Counting.{points_asked}
use Rattle.tt_fit.specs.DeltaCounting.{deltas_asked}
use Rattle.tt_picture.proofs.CutGlyphs.{counts_are, counts_made}
use Rattle.tt_picture.proofs.Turns.{same_dropouts}
use Rattle.tt_picture.proofs.fitted.FittedGlyph.made.Goals as goal
use Rattle.tt_strike_kept.specs.declared.glyph.KeptCounts.{KeptCounts}

pub returns-clause-fitted : goal.returns-clause-fitted
returns-clause-fitted c =
    let s = c.args.fitter.now in
    let n = c.args.number in
    let made = c.in_ok-made.ensures in
    let o = outline_of c.in_ok-made.made.outline in
    record {
      shape = o;
      outline = made.exact;
      body = rw c.in_ok-new.ensures.ok (record {
        outline = refl;
        rule = rw (c.rule_by.ensures, c.work-work.ensures) refl;
        filled = rw (
          c.rules_for-filled.ensures.exact,
          c.dropouts.ensures,
          made.after,
          made.unfitted,
          same_dropouts s n _ o,
        ) refl;
        unfitted = made.unfitted;
        fits = c.rules_for-filled.ensures.fits;
        points = counts_are (λ (k : KeptCounts). k.points) (points_asked s.tables s.levels n) c.counts_of-counts.result
            c.in_ok-points.points c.in_ok-points.ensures c.counts_of-counts.ensures.points;
        deltas = counts_are (λ (k : KeptCounts). k.deltas) (deltas_asked s.instance s.tables s.levels n)
            c.counts_of-counts.result c.in_ok-deltas.deltas c.in_ok-deltas.ensures c.counts_of-counts.ensures.deltas;
        made = counts_made unbounded-stays s n o c.in_ok-made.made.outline.unfitted c.counts_of-counts.result
            c.cost_of.result c.in_ok-made.made.cost made.exact made.unfitted made.cost
            (rw c.work-work.ensures at c.cost_of.ensures) c.counts_of-counts.ensures.cost;
      });
    }
