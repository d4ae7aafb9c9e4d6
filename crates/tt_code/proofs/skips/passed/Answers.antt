use Rattle.std.proofs.Common.{◌≡◌, slice_index_or, arith}
use Rattle.tt_code.proofs.Passed.{passed, told}
use Rattle.tt_code.proofs.skips.passed.Goals as goal

pub returns-clause-len : goal.returns-clause-len
returns-clause-len c = λ some.
    let is : c.from-2.result ≡ slice_index_or passed c.args.op _ = rw c.from.ensures at c.from-2.ensures in
    rw is (told c.args.op _ (omega arith) (rw is at some)).len
