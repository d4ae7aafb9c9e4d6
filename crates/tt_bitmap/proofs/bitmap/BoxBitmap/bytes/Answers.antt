use Rattle.std.proofs.Common.{rules}
use Rattle.tt_bitmap.proofs.bitmap.BoxBitmap.bytes.Goals as goal

pub returns-clause-words : goal.returns-clause-words
returns-clause-words c = search rules
