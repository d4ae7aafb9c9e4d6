use Rattle.std.proofs.Common.{◌∙◌, ◌*◌, ◌||◌, ap₂, refl, option_map, vec_items}
use Rattle.tt_core.specs.Bits.{stride}
use Rattle.tt_picture.specs.Lines.{some_line_shows}
use Rattle.tt_picture.specs.Stamps.{picture_shows}
use Rattle.tt_picture.proofs.Alike.{image_alike}
use Rattle.tt_picture.proofs.RowBytes.{length-rows}
use Rattle.tt_picture.proofs.Shown.{lines_shown}
use Rattle.tt_picture.proofs.picture.Picture.new.Goals as goal

pub returns-clause-exact : goal.returns-clause-exact
returns-clause-exact c = λ maker drawn.
    let f = c.args.frame in
    let lines = c.args.lines.now in
    let large = option_map vec_items c.in_ok-large.large in
    let stamps = c.in_ok-stamps.stamps.items in
    image_alike f (picture_shows f large stamps) (some_line_shows maker lines) (λ k r column row.
    ap₂ (λ a b. a || b) (c.in_ok-large.ensures.exact k r column row) (c.in_ok-stamps.ensures k r)
    ∙ lines_shown maker c.args.glyphs.now.made.items lines k r drawn c.requires.lines.among)

pub returns-clause-valid : goal.returns-clause-valid
returns-clause-valid c =
    let f = c.args.frame in
    let black = picture_shows f (option_map vec_items c.in_ok-large.large) c.in_ok-stamps.stamps.items in
    record {
      frame = c.requires.frame.fits;
      height = c.requires.frame.height;
      rows = length-rows f.width black 0 (stride f.width * f.height);
      made = refl;
    }
