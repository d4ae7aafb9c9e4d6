use Rattle.std.proofs.Common.{◌≡◌, ◌+◌, ◌*◌, ◌&&◌, ◌||◌, ◌==◌, min, arith}
use Rattle.tt_bitmap.specs.Inks.{in_row, row_has}
use Rattle.tt_bitmap.proofs.RowSides.{no_strip, row_more}
use Rattle.tt_bitmap.proofs.Sides.{sides_same}
use Rattle.tt_bitmap.proofs.Strips.{all_strips}
use Rattle.tt_bitmap.proofs.ink.with_row.Goals as goal

pub loop-strip-init : goal.loop-strip-init
loop-strip-init c = λ black are.
    sides_same black (λ r m. black r m || ((r == c.args.row) && row_has c.args.words.now c.args.columns (min c.args.columns (56 * 0)) r m)) c.args.sides
    (λ r m. no_strip (black r m) (r == c.args.row) c.args.words.now c.args.columns (min c.args.columns (56 * 0)) r m (omega arith)) are

pub loop-strip-preserved : goal.loop-strip-preserved
loop-strip-preserved c = λ black are.
    let words = c.args.words.now in
    let n = c.args.columns in
    let s = c.loop-strip.strip in
    let row = c.args.row in
    let so_far = c.loop-strip.invariant black are in
    let more = c.with_word-sides.ensures _ so_far in
    let is_strips = c.strips_of-strips.ensures in
    sides_same
    (λ r m. (black r m || ((r == row) && row_has words n (min n (56 * s)) r m)) || in_row c.first_columns.result row (56 * s) r m)
    (λ r m. black r m || ((r == row) && row_has words n (min n (56 * (s + 1))) r m)) c.with_word-sides.result
    (λ r m. row_more (black r m) words n n s row r m c.first_columns.result (λ j. rw (← is_strips, ← c.room_of.ensures) (c.first_columns.ensures j))) more

pub returns : goal.returns
returns c = λ black are.
    let all : min c.args.columns (56 * c.loop-strip.strip) ≡ c.args.columns =
    all_strips c.args.columns c.loop-strip.strip (omega (arith, c.loop-strip-test.false, c.strips_of-strips.ensures)) in
    rw all at (c.loop-strip.invariant black are)
