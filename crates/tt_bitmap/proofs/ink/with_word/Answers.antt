use Rattle.std.proofs.Common.{◌<◌, arith, w64}
use Rattle.std.specs.Int.{trailing_zeros}
use Rattle.tt_bitmap.specs.Inks.{in_row}
use Rattle.tt_bitmap.proofs.Sides.{between, joined_least, with_first, with_none, word_least}
use Rattle.tt_bitmap.proofs.ink.with_word.Goals as goal
use lib.Count.{count_leading_zeros}

pub returns-then-word-eq0 : goal.returns-then-word-eq0
returns-then-word-eq0 c = λ black are. with_none black c.args.sides c.args.word c.args.row c.args.begin c.if-word-eq0.true are

pub returns-in-None : goal.returns-in-None
returns-in-None c = λ black are.
    let word = c.args.word in
    let some : 0 < word = omega (arith, c.if-word-eq0.false) in
    let own = word_least word c.args.row c.args.begin (count_leading_zeros 64 word) (trailing_zeros w64 word) (between word some c.ranges.word.fits) in
    with_first black _ word c.args.row c.args.begin (rw c.in-None.is at are) own

pub returns-in-Some : goal.returns-in-Some
returns-in-Some c = λ black are.
    let word = c.args.word in
    let some : 0 < word = omega (arith, c.if-word-eq0.false) in
    let own = word_least word c.args.row c.args.begin (count_leading_zeros 64 word) (trailing_zeros w64 word) (between word some c.ranges.word.fits) in
    rw c.joined_sides.ensures (joined_least black (in_row word c.args.row c.args.begin) c.in-Some.others _ (rw c.in-Some.is at are) own)
