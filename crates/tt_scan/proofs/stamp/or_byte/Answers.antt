use Rattle.std.proofs.Common.{rules}
use Rattle.tt_scan.proofs.Words.{byte_ored}
use Rattle.tt_scan.proofs.stamp.or_byte.Goals as goal

pub returns : goal.returns
returns c = record {
  bits = λ k. byte_ored c.args.row.now c.args.byte c.args.mask k c.requires;
  len = search rules;
}
