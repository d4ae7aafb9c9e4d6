use Rattle.std.proofs.Common.{◌∙◌, refl, ap, ◌*◌, length, arith}
use Rattle.std.proofs.lemmas.List.{length-replicate, with_items_is}
use Rattle.tt_bitmap.specs.Bitmaps as bitmaps
use Rattle.tt_scan_dropouts.specs.Windows.{place}
use Rattle.tt_scan_dropouts.proofs.Inked.{all_begun, all_white, none_begun, one_line_more}
use Rattle.tt_scan_dropouts.proofs.bitmap.Bitmap.painted.Goals as goal

pub loop-s-init : goal.loop-s-init
loop-s-init c =
    let w = c.args.window in
    let bytes = c.stride.result * w.height in
    let white = c.in_ok-bits.ensures.items_if_clones_equal (λ x is. is) in
    record {
      black = λ k j inside. rw (white, all_white bytes (place w k j), none_begun w k j inside) refl;
      len = ap length white ∙ length-replicate bytes 0 ∙ rw c.stride.ensures refl;
    }

pub loop-s-preserved : goal.loop-s-preserved
loop-s-preserved c =
    let w = c.args.window in
    let so_far = c.loop-s.invariant in
    let written = with_items_is c.loop-s.bits c.paint_line.new.bits (c.paint_line.ensures.len ∙ c.deref_mut.ensures.len) in
    let black = rw c.deref_mut.ensures.value at c.paint_line.ensures.black in
    record {
      black = λ k j inside. rw written (black k j inside ∙ rw (so_far.black k j inside)
          (one_line_more w c.loop-s.s j (bitmaps.is_black c.args.inked.now k j)));
      len = rw written (c.paint_line.ensures.len ∙ ap length c.deref_mut.ensures.value ∙ so_far.len);
    }

pub returns-clause-black : goal.returns-clause-black
returns-clause-black c = λ k j inside.
    rw (
      inside,
      c.loop-s.invariant.black k j inside,
      all_begun c.args.window c.loop-s.s k j
          (omega (arith, c.loop-s-test.false, c.loop-s.auto.s-end)) inside,
    ) refl
