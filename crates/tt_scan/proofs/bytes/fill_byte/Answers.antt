use Rattle.std.proofs.Common.{rules}
use Rattle.tt_scan.proofs.Columns.{byte_filled}
use Rattle.tt_scan.proofs.bytes.fill_byte.Goals as goal

pub returns : goal.returns
returns c = record {
  bits = λ k. byte_filled c.args.row.now c.args.byte c.args.from c.args.to c.mask.result k c.requires.within c.requires.fits c.mask.ensures;
  len = search rules;
}
