use Rattle.std.proofs.Common.{◌≡◌, ℕ, take}
use Rattle.tt_picture.specs.Placed.{in_bitmap, lines_have, number_has}
use Rattle.tt_picture.specs.Stamps.{some_stamp_shows}
use Rattle.tt_picture.proofs.stamps.stamps_of.Given as goal

-- the glyphs of the lines so far are added
abbrev pub invariant-loop-line : goal.invariant-loop-line
invariant-loop-line l = (c r : ℕ) → some_stamp_shows l.stamps.items c r
    ≡ lines_have (number_has in_bitmap l.glyphs.made.items) (take l.line-index l.lines) c r
