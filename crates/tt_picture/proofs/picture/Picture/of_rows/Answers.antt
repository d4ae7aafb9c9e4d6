use Rattle.std.proofs.Common.{◌≡◌, ◌∙◌, ◌*◌, Bool, true, false, ◌||◌, Some, refl}
use Rattle.tt_core.specs.Bits.{stride}
use Rattle.tt_picture.specs.Stamps.{picture_shows, rows_show}
use Rattle.tt_picture.proofs.Alike.{image_alike}
use Rattle.tt_picture.proofs.RowBytes.{length-rows}
use Rattle.tt_picture.proofs.picture.Picture.of_rows.Goals as goal

or_false : (b : Bool) → (b || false) ≡ b
or_false true = refl
or_false false = refl

pub returns-clause-exact : goal.returns-clause-exact
returns-clause-exact c =
    let f = c.args.frame in
    let bytes = c.args.rows.items in
    image_alike f (picture_shows f (Some bytes) c.new.result.items) (rows_show f (Some bytes))
    (λ k r column row. rw c.new.ensures.items (or_false (rows_show f (Some bytes) k r)))

pub returns-clause-valid : goal.returns-clause-valid
returns-clause-valid c =
    let f = c.args.frame in
    record {
      frame = c.requires.frame.fits;
      height = c.requires.frame.height;
      rows = length-rows f.width (picture_shows f (Some c.args.rows.items) c.new.result.items) 0 (stride f.width * f.height);
      made = refl;
    }
