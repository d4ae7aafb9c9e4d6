use Rattle.std.proofs.Common.{◌≡◌, ℕ, ◌||◌, take}
use Rattle.tt_picture.specs.Placed.{in_bitmap, number_has, place_has}
use Rattle.tt_picture.specs.Stamps.{some_stamp_shows}
use Rattle.tt_picture.proofs.stamps.push_line.Given as goal

-- the glyphs of the places so far are added
abbrev pub invariant-loop-placed : goal.invariant-loop-placed
invariant-loop-placed l = (c r : ℕ) → some_stamp_shows l.stamps.items c r
    ≡ (some_stamp_shows l.fn.stamps.items c r || place_has (number_has in_bitmap l.glyphs.made.items) l.frame (take l.placed-index l.line) c r)
