use Rattle.std.proofs.Common.{◌∙◌, ap, ◌<◌, ◌≤◌, false, ◌||◌, length, pos, arith}
use Rattle.std.proofs.lemmas.List.{take_all}
use Rattle.std.proofs.lemmas.List.Elements.{All-push}
use Rattle.tt_scan_dropouts.specs.Pictures.{is_among}
use Rattle.tt_scan_dropouts.specs.declared.picture.Dropout.{Dropout}
use Rattle.tt_scan_dropouts.specs.declared.pixel.Pixel.{Pixel}
use Rattle.tt_scan_dropouts.proofs.Pictured.{among_pushed, one_pixel_more}
use Rattle.tt_glyphs.specs.Drawn.{column_of, line_of}
use Rattle.tt_glyphs.proofs.large.dropouts_among.Goals as goal

pub loop-pixel-preserved : goal.loop-pixel-preserved
loop-pixel-preserved c =
    let p = c.args.place in
    let at = c.loop-pixel in
    let i = at.pixel-index in
    let ps = c.args.pixels.now in
    let none : Pixel = record { column = pos 0; row = pos 0 } in
    let below : i < length ps = c.loop-pixel-test.true in
    let pushed = c.in_ok-push.ensures.items in
    let one = c.dropout_of.result in
    rw pushed (record {
      added = λ k r. among_pushed at.found.items one k r
          ∙ ap (λ b. is_among at.found.items k r || b) (c.dropout_of.ensures.exact k r)
          ∙ rw (at.invariant.added k r) (one_pixel_more ps i none (column_of p k) (line_of p r) false below);
      within = All-push (λ (d : Dropout). d.column < p.width) at.found.items one at.invariant.within c.dropout_of.ensures.column;
    })

pub dropout_of-requires-clause-pixel : goal.dropout_of-requires-clause-pixel
dropout_of-requires-clause-pixel c =
    let none : Pixel = record { column = pos 0; row = pos 0 } in
    c.requires.pixels c.loop-pixel.pixel-index none c.loop-pixel-test.true

pub returns-clause-exact : goal.returns-clause-exact
returns-clause-exact c = λ k r.
    let ps = c.args.pixels.now in
    let i = c.loop-pixel.pixel-index in
    let over : length ps ≤ i = omega (arith, c.loop-pixel-test.false) in
    c.sort_by_rows.ensures.same k r ∙ rw (take_all i ps over) at (c.loop-pixel.invariant.added k r)

pub returns-clause-valid : goal.returns-clause-valid
returns-clause-valid c = record {
  order = c.sort_by_rows.ensures.order;
  columns = c.sort_by_rows.ensures.columns c.args.place.width c.loop-pixel.invariant.within;
}
