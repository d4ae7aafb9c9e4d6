use Rattle.std.proofs.Common.{◌*◌, to_z, of_z, w64}
use Rattle.tt_bitmap.proofs.Boxes.{white_at}
use Rattle.tt_bitmap.proofs.bitmap.BoxBitmap.new.Goals as goal

pub returns-clause-white : goal.returns-clause-white
returns-clause-white c = λ k j.
    let white = c.in_ok-words.ensures.items_if_clones_equal (λ x is. is) in
    rw white (white_at (to_z w64 (of_z w64 c.args.left)) (to_z w64 (of_z w64 c.args.top)) c.args.width c.args.height (c.strips_of.result * c.args.height) k j)
