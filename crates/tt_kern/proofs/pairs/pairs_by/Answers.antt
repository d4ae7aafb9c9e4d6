use Rattle.std.proofs.Common.{◌≡◌, ◌-◌, sym, ◌∙◌, arith}
use Rattle.tt_kern.specs.Pairs.{listed_by}
use Rattle.tt_kern.proofs.Lists.{few-taken}
use Rattle.tt_kern.proofs.PairLists.{one-lookup, no-lookup, all-lookups, reads-of-next, none-read, all-read}
use Rattle.tt_kern.proofs.pairs.pairs_by.Goals as goal

pub returns-then-number-count-clause-exact : goal.returns-then-number-count-clause-exact
returns-then-number-count-clause-exact c =
    let at = c.loop-i in
    let next = rw c.listed_by-numbers.ensures.exact at c.next-number.ensures in
    sym (no-lookup c.args.table.now at.i (listed_by c.args.table.now c.args.feature) at.low c.word-count.result
    c.next-number.result at.pairs next c.if-number-count.true at.invariant.few) ∙ at.invariant.left

pub loop-i-preserved : goal.loop-i-preserved
loop-i-preserved c =
    let at = c.loop-i in
    let b = c.args.table.now in
    let next = rw c.listed_by-numbers.ensures.exact at c.next-number.ensures in
    let note_count = rw c.lookup_place-lookup.ensures.exact at c.note_lookup.ensures.count in
    let next_reads = reads-of-next b at.i (listed_by b c.args.feature) at.low c.word-count.result c.next-number.result
    next c.if-number-count.false c.loop-i-test.true in
    let noted = rw c.lookup_place-lookup.ensures.exact at c.note_lookup.ensures.exact in
    record {
      left = one-lookup b at.i (listed_by b c.args.feature) at.low c.word-count.result c.next-number.result at.pairs
          c.note_lookup.new.pairs next c.if-number-count.false c.loop-i-test.true noted ∙ at.invariant.left;
      few = rw noted (few-taken 64 _);
      read = omega (arith, at.invariant.read, c.lookup_place-lookup.ensures.count, note_count, next_reads);
      reads_few = omega (arith, at.invariant.reads_few, c.lookup_place-lookup.ensures.count, c.note_lookup.ensures.few);
    }

pub returns-clause-exact : goal.returns-clause-exact
returns-clause-exact c =
    let at = c.loop-i in
    let end : at.i ≡ 32 = omega (arith, c.loop-i-test.false, at.auto.i-end) in
    sym (all-lookups c.args.table.now at.i (listed_by c.args.table.now c.args.feature) at.low (c.word-count.result - at.low)
    at.pairs end at.invariant.few) ∙ at.invariant.left

pub returns-then-number-count-clause-count : goal.returns-then-number-count-clause-count
returns-then-number-count-clause-count c =
    let at = c.loop-i in
    let next = rw c.listed_by-numbers.ensures.exact at c.next-number.ensures in
    let none = none-read c.args.table.now at.i (listed_by c.args.table.now c.args.feature) at.low c.word-count.result
    c.next-number.result next c.if-number-count.true in
    omega (arith, at.invariant.read, none)

pub returns-clause-count : goal.returns-clause-count
returns-clause-count c =
    let at = c.loop-i in
    let end : at.i ≡ 32 = omega (arith, c.loop-i-test.false, at.auto.i-end) in
    let none = all-read c.args.table.now at.i (listed_by c.args.table.now c.args.feature) at.low (c.word-count.result - at.low) end in
    omega (arith, at.invariant.read, none)
