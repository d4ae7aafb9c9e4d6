use Rattle.std.proofs.Common.{◌≡◌, ◌∙◌, ◌+◌, ◌-◌, refl, sym, SFits, w32, of_z, to_z, arith}
use Rattle.std.proofs.lemmas.Int.{ints, to_z-of_z}
use Rattle.tt_kern.specs.KernTable.{length_told, subtables_from}
use Rattle.tt_kern.specs.Reads.{subtables_reads, kern_reads}
use Rattle.tt_kern.proofs.KernTable.{short-ends, last-ends, goes-on, none-read, last-read, next-read, all-read}
use Rattle.tt_kern.proofs.kern_table.kern_sum.Goals as goal

pub returns-then-len-at-clause-exact : goal.returns-then-len-at-clause-exact
returns-then-len-at-clause-exact c =
    let at = c.loop-i in
    let ends = short-ends c.in-Some.version c.args.table.now c.args.glyphs.left c.args.glyphs.right (to_z w32 at.total-bits)
    c.count_taken-i-end.result at.i at.at c.loop-i-test.true (rw c.len.ensures at c.if-len-at.true) in
    sym ends ∙ at.invariant.left

pub returns-then-length-header_size-clause-exact : goal.returns-then-length-header_size-clause-exact
returns-then-length-header_size-clause-exact c =
    let at = c.loop-i in
    let bound = c.after_subtable-total.ensures.bound in
    let fits : SFits w32 c.after_subtable-total.result = omega (arith, ints, bound, at.invariant.bound, at.invariant.few, c.loop-i-test.true) in
    let same : to_z w32 (of_z w32 c.after_subtable-total.result) ≡ c.after_subtable-total.result = simp to_z-of_z refl in
    let short = rw (c.length_told-length.ensures.exact, c.header_size.ensures.exact) at c.if-length-header_size.true in
    let ends = last-ends c.in-Some.version c.args.table.now c.args.glyphs.left c.args.glyphs.right (to_z w32 at.total-bits)
    c.count_taken-i-end.result at.i at.at c.loop-i-test.true (rw c.len.ensures at c.if-len-at.false) short in
    rw (same, c.after_subtable-total.ensures.exact) (sym ends ∙ at.invariant.left)

pub loop-i-preserved : goal.loop-i-preserved
loop-i-preserved c =
    let at = c.loop-i in
    let bound = c.after_subtable-total.ensures.bound in
    let fits : SFits w32 c.after_subtable-total.result = omega (arith, ints, bound, at.invariant.bound, at.invariant.few, c.loop-i-test.true) in
    let same : to_z w32 (of_z w32 c.after_subtable-total.result) ≡ c.after_subtable-total.result = simp to_z-of_z refl in
    let long = rw (c.length_told-length.ensures.exact, c.header_size.ensures.exact) at c.if-length-header_size.false in
    let next = goes-on c.in-Some.version c.args.table.now c.args.glyphs.left c.args.glyphs.right (to_z w32 at.total-bits)
    c.count_taken-i-end.result at.i at.at c.loop-i-test.true (rw c.len.ensures at c.if-len-at.false) long in
    let reads = next-read c.in-Some.version c.args.table.now c.args.glyphs.left c.args.glyphs.right c.count_taken-i-end.result at.i at.at
    c.loop-i-test.true (rw c.len.ensures at c.if-len-at.false) long in
    let read : c.length_told-length.new.reads
    + subtables_reads c.in-Some.version c.args.table.now c.args.glyphs.left c.args.glyphs.right (subtables_from c.in-Some.version c.args.table.now
    (c.count_taken-i-end.result - (at.i + 1)) (at.at + length_told c.in-Some.version c.args.table.now at.at))
    ≡ c.args.reads.now + kern_reads c.args.table.now c.args.glyphs.left c.args.glyphs.right = omega (arith, at.invariant.read, reads, c.after_subtable-total.ensures.count, c.length_told-length.ensures.count) in
    record {
      left = rw (same, c.after_subtable-total.ensures.exact, c.length_told-length.ensures.exact) (sym next ∙ at.invariant.left);
      few = at.invariant.few;
      bound = rw same (omega (arith, bound, at.invariant.bound));
      near = omega (arith, c.if-len-at.false, c.len.ensures, c.requires.size, c.length_told-length.ensures.bound);
      read = rw c.length_told-length.ensures.exact read;
      reads_few = omega (arith, at.invariant.reads_few, c.after_subtable-total.ensures.few, c.length_told-length.ensures.count);
    }

pub returns-then-len-at-clause-count : goal.returns-then-len-at-clause-count
returns-then-len-at-clause-count c =
    let at = c.loop-i in
    let none = none-read c.in-Some.version c.args.table.now c.args.glyphs.left c.args.glyphs.right c.count_taken-i-end.result at.i at.at
    c.loop-i-test.true (rw c.len.ensures at c.if-len-at.true) in
    omega (arith, at.invariant.read, none)

pub returns-then-length-header_size-clause-count : goal.returns-then-length-header_size-clause-count
returns-then-length-header_size-clause-count c =
    let at = c.loop-i in
    let short = rw (c.length_told-length.ensures.exact, c.header_size.ensures.exact) at c.if-length-header_size.true in
    let last = last-read c.in-Some.version c.args.table.now c.args.glyphs.left c.args.glyphs.right c.count_taken-i-end.result at.i at.at
    c.loop-i-test.true (rw c.len.ensures at c.if-len-at.false) short in
    omega (arith, at.invariant.read, last, c.after_subtable-total.ensures.count, c.length_told-length.ensures.count)

pub returns-clause-count : goal.returns-clause-count
returns-clause-count c =
    let at = c.loop-i in
    let none = all-read c.in-Some.version c.args.table.now c.args.glyphs.left c.args.glyphs.right c.count_taken-i-end.result at.i at.at
    (omega (arith, c.loop-i-test.false)) in
    omega (arith, at.invariant.read, none)
