use Rattle.std.proofs.Common.{◌≡◌, ◌∙◌, ◌||◌, ap, sym}
use Rattle.tt_bitmap.specs.Bitmaps.{is_black}
use Rattle.tt_picture.specs.Glyphs as glyphs
use Rattle.tt_picture.specs.Placed.{in_bitmap}
use Rattle.tt_picture.specs.Stamps.{some_stamp_shows}
use Rattle.tt_picture.specs.Views.{body_view}
use Rattle.tt_picture.proofs.Blackened.{or_false}
use Rattle.tt_picture.proofs.Placed.{stamp_pushed}
use Rattle.tt_scan_dropouts.specs.Pictures.{column_at, line_at}
use Rattle.tt_picture.proofs.stamps.push_stamp.Goals as goal
use Rattle.tt_strike_kept.specs.declared.cut.CutGlyph.{CutGlyph}

pub returns-in_ok-push-in-Small : goal.returns-in_ok-push-in-Small
returns-in_ok-push-in-Small c = λ k r.
    let g = c.args.glyph.now in
    let x = column_at c.args.frame c.args.pen k in
    let y = line_at c.args.frame r in
    let before = c.args.stamps.now.items in
    let body : body_view c.glyph.inside.body ≡ g.body = ap (λ (g : glyphs.Glyph). g.body) c.glyph.view_is in
    let cut = c.in-Small.cut.value in
    let is : body_view c.glyph.inside.body ≡ glyphs.small cut.bitmap cut.ink = ap body_view c.in-Small.is in
    let shown = c.stamp_at-stamp.ensures k r ∙ ap (λ (cut : CutGlyph). is_black cut.bitmap x y) c.in_ok-clone-in-Small.ensures.cases
    ∙ ap (λ b. in_bitmap b x y) (sym is ∙ body) in
    rw c.in_ok-push-in-Small.ensures.items (stamp_pushed before c.stamp_at-stamp.result k r ∙ ap (λ b. some_stamp_shows before k r || b) shown)

pub returns-in-Large : goal.returns-in-Large
returns-in-Large c = λ k r.
    let g = c.args.glyph.now in
    let body : body_view c.glyph.inside.body ≡ g.body = ap (λ (g : glyphs.Glyph). g.body) c.glyph.view_is in
    let is = sym body ∙ ap body_view c.in-Large.is in
    rw is (sym (or_false (some_stamp_shows c.args.stamps.now.items k r)))
