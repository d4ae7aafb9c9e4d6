use Rattle.std.proofs.Common.{◌<◌, ◌^◌, arith, rules, w64}
use Rattle.std.specs.Int.{trailing_zeros}
use Rattle.tt_bitmap.proofs.NarrowInks.{narrow_least, narrow_white}
use Rattle.tt_bitmap.proofs.Sides.{between}
use Rattle.tt_bitmap.proofs.ink.narrow_sides.Goals as goal
use lib.Count.{count_leading_zeros}

pub returns-then-ink-eq0 : goal.returns-then-ink-eq0
returns-then-ink-eq0 c = λ black is. narrow_white black c.args.ink c.if-ink-eq0.true is

pub returns : goal.returns
returns c = λ black is.
    let word = c.args.ink.columns in
    let some : 0 < word = omega (arith, c.if-ink-eq0.false) in
    let fits : word < 2 ^ 64 = search rules in
    narrow_least black c.args.ink (count_leading_zeros 64 word) (trailing_zeros w64 word) some (between word some fits) is
