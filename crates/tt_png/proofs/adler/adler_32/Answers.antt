use Rattle.std.proofs.Common.{◌+◌, slice_index, rules, sym, ◌∙◌, arith}
use Rattle.std.proofs.lemmas.List.{at_drop_more}
use Rattle.tt_png.specs.Adler.{adler_from}
use Rattle.tt_png.proofs.Sums.{first_stays, second_stays}
use Rattle.tt_png.proofs.adler.adler_32.Goals as goal

pub loop-byte-preserved : goal.loop-byte-preserved
loop-byte-preserved c =
    let so_far = c.loop-byte.invariant in
    let rest = at_drop_more (adler_from c.loop-byte.first c.loop-byte.second) c.args.bytes.now c.loop-byte.byte-index 0
    c.loop-byte-test.true in
    let byte = slice_index c.args.bytes.now c.loop-byte.byte-index in
    let small = first_stays c.loop-byte.first byte c.loop-byte.byte-index so_far.small (search rules) in
    rw c.from-first.ensures (record {
      whole = sym rest ∙ so_far.whole;
      small = small;
      less = second_stays (c.loop-byte.first + byte) c.loop-byte.second c.loop-byte.byte-index small so_far.less
          (omega (arith, c.requires, c.loop-byte-test.true));
    })
