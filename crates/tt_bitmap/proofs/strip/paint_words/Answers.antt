use Rattle.std.proofs.Common.{◌≡◌, ◌+◌, ◌*◌, ◌&&◌, nat_lt, min, slice_index, pos, ◌+ℤ◌, SFits, w64, rules, arith}
use Rattle.std.proofs.lemmas.Int.{to_z-of_z}
use Rattle.tt_bitmap.specs.Bitmaps.{shown_in, strips}
use Rattle.tt_bitmap.specs.Words.{stamped}
use Rattle.tt_bitmap.proofs.Bands.{not_painted, painted_over}
use Rattle.tt_bitmap.proofs.Strips.{all_strips, none_yet, strip_more}
use Rattle.tt_bitmap.proofs.strip.paint_words.Goals as goal

pub loop-strip-init : goal.loop-strip-init
loop-strip-init c =
    let n = c.args.row.columns in
    not_painted c.args.row.bytes c.args.rows
    (λ i k. nat_lt k c.args.row.width && shown_in c.args.words.now n c.args.row.at (min n (56 * 0)) i k) c.args.band.now
    (λ i k. none_yet (nat_lt k c.args.row.width) c.args.words.now n i k (min n (56 * 0)) c.args.row.at (omega arith))

pub loop-strip-preserved : goal.loop-strip-preserved
loop-strip-preserved c =
    let n = c.args.row.columns in
    let s = c.loop-strip.strip in
    let words = c.args.words.now in
    let place = c.place_of-place.result in
    let at : SFits w64 c.args.row.at = search rules in
    let begin : SFits w64 c.strip_at.result = search rules in
    let is_at : c.strip_at.result ≡ c.args.row.at +ℤ pos (56 * s) = simp to_z-of_z at c.strip_at.ensures.exact in
    let is_strips = c.strips_of-strips.ensures in
    let painted = rw is_strips at c.paint_strip.ensures in
    let shown = rw (is_at, c.room_of.ensures) at (simp to_z-of_z at c.place_of-place.ensures.shown) in
    let so_far = c.loop-strip.invariant in
    painted_over c.args.row.bytes c.args.rows
    (λ i k. nat_lt k c.args.row.width && shown_in words n c.args.row.at (min n (56 * s)) i k)
    (λ i k. stamped place (slice_index words (strips n * i + s)) k)
    (λ i k. nat_lt k c.args.row.width && shown_in words n c.args.row.at (min n (56 * (s + 1))) i k)
    c.args.band.now c.loop-strip.band c.paint_strip.new.band so_far painted
    (λ i k below. strip_more (nat_lt k c.args.row.width) words n n s i k c.args.row.at _
    (shown (slice_index words (strips n * i + s)) k ((c.type_inv.words (strips n * i + s)).fits)))

pub returns : goal.returns
returns c =
    let all : min c.args.row.columns (56 * c.loop-strip.strip) ≡ c.args.row.columns =
    all_strips c.args.row.columns c.loop-strip.strip (omega (arith, c.loop-strip-test.false, c.strips_of-strips.ensures)) in
    rw all at c.loop-strip.invariant
