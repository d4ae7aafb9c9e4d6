use Rattle.std.proofs.Common.{◌∙◌}
use Rattle.tt_picture.proofs.Listing.{one_listed, none_more}
use Rattle.tt_picture.proofs.report.report_on.Goals.{in-Some+in_ok-push, in_default}
use Rattle.tt_picture.proofs.report.report_on.Goals as goal

pub loop-glyph-preserved : goal.loop-glyph-preserved
loop-glyph-preserved c =
    let gs = c.args.glyphs.now in
    let i = c.loop-glyph.glyph-index in
    let before = c.loop-glyph.unfitted.items in
    let below = c.loop-glyph-test.true in
    elim c.match-unfitted.branch [
      | in-Some+in_ok-push w ↦
          let listed = w.in-Some.ensures.some in
          rw (w.unfitted-is, w.in_ok-push.ensures.items)
          (one_listed gs i c.glyph-item.result before w.in-Some.entry below c.glyph-item.is listed.0 listed.1
          ∙ c.loop-glyph.invariant)
      | in_default w ↦
          rw w.unfitted-is (none_more gs i c.glyph-item.result before below c.glyph-item.is w.in_default.ensures.none
          ∙ c.loop-glyph.invariant)
    ]
