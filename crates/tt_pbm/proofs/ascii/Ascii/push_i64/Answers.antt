use Rattle.std.proofs.Common.{decimal, length-append, SFits, w64, arith}
use Rattle.std.proofs.lemmas.Fmt.{length-decimal-le}
use Rattle.std.proofs.lemmas.Int.{to_z-of_z}
use Rattle.tt_pbm.proofs.Decimals.{minus_before, no_minus}
use Rattle.tt_pbm.proofs.ascii.Ascii.push_i64.Goals as goal

pub push_digits-requires : goal.push_digits-requires
push_digits-requires c =
    omega (arith, c.requires.room, length-decimal-le 19 c.unsigned_abs.result (omega arith) (omega arith) (omega arith))

pub push-requires : goal.push-requires
push-requires c =
    let few = length-decimal-le 19 c.unsigned_abs.result (omega arith) (omega arith) (omega arith) in
    rw c.push_digits.ensures.exact
    (omega (arith, c.requires.room, length-append (decimal c.unsigned_abs.result) c.args.self.now, few))

pub returns-then-n-lt0-clause-exact : goal.returns-then-n-lt0-clause-exact
returns-then-n-lt0-clause-exact c =
    let n : SFits w64 c.args.n = c.ranges.n in
    let size = simp to_z-of_z at c.unsigned_abs.ensures.value in
    let below = simp to_z-of_z at c.if-n-lt0.true in
    rw (c.push.ensures.exact, c.push_digits.ensures.exact, size) (minus_before c.args.n c.args.self.now below)

pub returns-then-n-lt0-clause-bound : goal.returns-then-n-lt0-clause-bound
returns-then-n-lt0-clause-bound c =
    let few = length-decimal-le 19 c.unsigned_abs.result (omega arith) (omega arith) (omega arith) in
    rw (c.push.ensures.exact, c.push_digits.ensures.exact)
    (omega (arith, length-append (decimal c.unsigned_abs.result) c.args.self.now, few))

pub returns-else-n-lt0-clause-exact : goal.returns-else-n-lt0-clause-exact
returns-else-n-lt0-clause-exact c =
    let n : SFits w64 c.args.n = c.ranges.n in
    let size = simp to_z-of_z at c.unsigned_abs.ensures.value in
    let from = simp to_z-of_z at c.if-n-lt0.false in
    rw (c.push_digits.ensures.exact, size) (no_minus c.args.n c.args.self.now from)

pub returns-else-n-lt0-clause-bound : goal.returns-else-n-lt0-clause-bound
returns-else-n-lt0-clause-bound c =
    let few = length-decimal-le 19 c.unsigned_abs.result (omega arith) (omega arith) (omega arith) in
    rw c.push_digits.ensures.exact
    (omega (arith, length-append (decimal c.unsigned_abs.result) c.args.self.now, few))
