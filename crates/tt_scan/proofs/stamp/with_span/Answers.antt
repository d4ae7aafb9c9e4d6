use Rattle.std.proofs.Common.{◌+ℤ◌, ◌-ℤ◌, pos, unsigned_abs, bit_or, refl, rules, arith}
use Rattle.tt_scan.proofs.Stamped.{Spanned, spanned, shows_more, free_more}
use Rattle.tt_scan.proofs.stamp.with_span.Goals as goal

pub ones-requires-clause-order : goal.ones-requires-clause-order
ones-requires-clause-order c =
    let s : Spanned c.args.stamp.low c.args.span.first c.args.span.last =
    spanned c.args.stamp.low c.args.span.first c.args.span.last (search rules) (search rules) (search rules)
    c.args.stamp.near c.if-span-stamp.false c.if-span.false c.if-stamp-span.false in
    simp (s.is_low, s.is_first, s.is_last, s.from, s.past, s.to) s.order

pub ones-requires-clause-fits : goal.ones-requires-clause-fits
ones-requires-clause-fits c =
    let s : Spanned c.args.stamp.low c.args.span.first c.args.span.last =
    spanned c.args.stamp.low c.args.span.first c.args.span.last (search rules) (search rules) (search rules)
    c.args.stamp.near c.if-span-stamp.false c.if-span.false c.if-stamp-span.false in
    simp (s.is_low, s.is_last, s.past, s.to) s.fits

pub invariant_of-result-clause-free : goal.invariant_of-result-clause-free
invariant_of-result-clause-free c = λ i few.
    let s : Spanned c.args.stamp.low c.args.span.first c.args.span.last =
    spanned c.args.stamp.low c.args.span.first c.args.span.last (search rules) (search rules) (search rules)
    c.args.stamp.near c.if-span-stamp.false c.if-span.false c.if-stamp-span.false in
    let is = simp (s.is_low, s.is_first, s.is_last, s.from, s.past, s.to) at c.ones.ensures in
    let most = simp (s.is_low, s.is_last, s.past, s.to) at c.max.ensures in
    free_more c.args.stamp.word c.ones.result (unsigned_abs (c.args.span.first -ℤ c.args.stamp.low)) (unsigned_abs ((c.args.span.last +ℤ pos 1) -ℤ c.args.stamp.low)) i
    s.fits is (omega (arith, few, most)) (c.args.stamp.free i (omega (arith, few, most)))

pub returns-clause-shows : goal.returns-clause-shows
returns-clause-shows c = λ at.
    let s : Spanned c.args.stamp.low c.args.span.first c.args.span.last =
    spanned c.args.stamp.low c.args.span.first c.args.span.last (search rules) (search rules) (search rules)
    c.args.stamp.near c.if-span-stamp.false c.if-span.false c.if-stamp-span.false in
    let is = simp (s.is_low, s.is_first, s.is_last, s.from, s.past, s.to) at c.ones.ensures in
    simp s.is_low (shows_more c.args.stamp.low c.args.stamp.word (bit_or c.args.stamp.word c.ones.result) c.args.span
    (unsigned_abs (c.args.span.first -ℤ c.args.stamp.low)) (unsigned_abs ((c.args.span.last +ℤ pos 1) -ℤ c.args.stamp.low)) c.ones.result at
    refl s.is_from s.is_to s.above s.below is)
