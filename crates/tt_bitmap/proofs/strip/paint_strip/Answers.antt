use Rattle.std.proofs.Common.{◌+◌, ◌*◌, slice_index}
use Rattle.tt_bitmap.proofs.Bands.{not_painted}
use Rattle.tt_bitmap.proofs.Clips.{none_stamped}
use Rattle.tt_bitmap.proofs.strip.paint_strip.Goals as goal

pub returns-then-at-eq0 : goal.returns-then-at-eq0
returns-then-at-eq0 c = not_painted c.args.at.bytes c.args.at.rows _ c.args.band.now
    (λ i k. rw c.if-at-eq0.true (none_stamped c.args.at.place.start c.args.at.place.turn (slice_index c.args.words.now (c.args.at.strips * i + c.args.at.strip)) k c.args.at.place.low))
