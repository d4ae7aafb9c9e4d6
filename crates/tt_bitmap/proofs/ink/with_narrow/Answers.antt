use Rattle.std.proofs.Common.{◌<◌, arith, w64}
use Rattle.std.specs.Int.{trailing_zeros}
use Rattle.tt_bitmap.proofs.NarrowInks.{with_first_row, with_next_row, with_white}
use Rattle.tt_bitmap.proofs.Sides.{between}
use Rattle.tt_bitmap.proofs.ink.with_narrow.Goals as goal
use lib.Count.{count_leading_zeros}

pub returns-then-word-eq0 : goal.returns-then-word-eq0
returns-then-word-eq0 c = λ black above is. with_white black c.args.ink c.args.word c.args.row c.if-word-eq0.true is

pub returns-then-ink-eq0 : goal.returns-then-ink-eq0
returns-then-ink-eq0 c = λ black above is.
    let word = c.args.word in
    let some : 0 < word = omega (arith, c.if-word-eq0.false) in
    with_first_row black c.args.ink word c.args.row (count_leading_zeros 64 word) (trailing_zeros w64 word) c.if-ink-eq0.true
    (between word some c.ranges.word.fits) is

pub returns : goal.returns
returns c = λ black above is.
    let word = c.args.word in
    let some : 0 < word = omega (arith, c.if-word-eq0.false) in
    let begun : 0 < c.args.ink.columns = omega (arith, c.if-ink-eq0.false) in
    with_next_row black c.args.ink word c.args.row (count_leading_zeros 64 word) (trailing_zeros w64 word) begun
    (between word some c.ranges.word.fits) above is
