use Rattle.std.proofs.Common.{◌≡◌, ℤ, false, refl}
use Rattle.tt_scan.specs.Contours.{contours_at}
use Rattle.tt_scan_dropouts.specs.Dropouts.{is_dropout}
use Rattle.tt_scan_dropouts.specs.Windows.{has}
use Rattle.tt_scan_dropouts.proofs.Together.{nothing_there}
use Rattle.tt_scan_dropouts.proofs.filling.closed_dropouts.Goals as goal

pub returns-then-not-closed_may_have_dropouts : goal.returns-then-not-closed_may_have_dropouts
returns-then-not-closed_may_have_dropouts c =
    let contours = contours_at c.args.glyph.tape.now.edges c.args.glyph.ends.now in
    let none : (col row : ℤ) → is_dropout c.args.glyph.rules contours col row ≡ false = λ col row.
    rw (c.contours.ensures.edges, c.contours.ensures.ends) at (c.closed_may_have_dropouts.ensures c.if-not-closed_may_have_dropouts.true c.args.glyph.rules refl refl col row) in
    record {
      exact = λ col row. rw c.new.ensures.items (nothing_there (has c.args.window col row)
          (is_dropout c.args.glyph.rules contours col row) (none col row));
    }
