use Rattle.std.proofs.Common.{decimal, length-append, arith}
use Rattle.std.proofs.lemmas.Fmt.{length-decimal-le}
use Rattle.tt_pbm.proofs.ascii.Ascii.push_u32.Goals as goal

pub push_digits-requires : goal.push_digits-requires
push_digits-requires c = rw c.from.ensures
    (omega (arith, c.requires.room, length-decimal-le 10 c.args.n (omega arith) (omega arith) (omega arith)))

pub returns-clause-bound : goal.returns-clause-bound
returns-clause-bound c = rw (c.push_digits.ensures.exact, c.from.ensures) (omega
    (arith, length-append (decimal c.args.n) c.args.self.now, length-decimal-le 10 c.args.n (omega arith) (omega arith) (omega arith)))
