use Rattle.std.proofs.Common.{rules, arith, ◌≡◌, ◌*◌}
use Rattle.tt_scan.proofs.Columns.{nothing_more, one_byte_more}
use Rattle.tt_scan.proofs.bytes.fill_bytes.Goals as goal

pub loop-byte-init : goal.loop-byte-init
loop-byte-init c = record { bits = λ k. nothing_more _ (8 * c.args.from) k; len = search rules; reached = search rules }

pub loop-byte-preserved : goal.loop-byte-preserved
loop-byte-preserved c = record {
  bits =
      λ k. one_byte_more c.args.row.now c.loop-byte.row c.args.from c.loop-byte.byte k (search rules) c.loop-byte.invariant.reached (c.loop-byte.invariant.bits k);
  len = search rules;
  reached = search rules;
}

pub returns : goal.returns
returns c = record {
  bits = λ k.
      let done : c.loop-byte.byte ≡ c.args.to =
      omega (arith, c.loop-byte.auto.byte-end, c.loop-byte-test.false, c.requires.order) in
      rw done at (c.loop-byte.invariant.bits k);
  len = c.loop-byte.invariant.len;
}
