use Rattle.std.proofs.Common.{pos}
use Rattle.tt_scan_dropouts.specs.Passes.{has_pixel}
use Rattle.tt_scan_dropouts.specs.declared.pixel.Pixel.{Pixel}
use Rattle.tt_scan_dropouts.proofs.Pixels.{one_more}
use Rattle.tt_scan_dropouts.proofs.filling.push_within.Goals as goal

pub loop-pixel-preserved : goal.loop-pixel-preserved
loop-pixel-preserved c =
    let i = c.loop-pixel.pixel-index in
    let d : Pixel = record { column = pos 0; row = pos 0 } in
    record {
      so_far = λ col row.
          let at = c.pixel_at.ensures col row in
          one_more c.args.window c.args.over c.args.pixels.now i d (has_pixel c.args.found.now.items col row)
          (has_pixel c.loop-pixel.found.items col row) (has_pixel c.push_if_within.new.found.items col row) col row
          c.loop-pixel-test.true (c.loop-pixel.invariant.so_far col row)
          (rw at at (c.in_ok-push_if_within.ensures col row));
    }
