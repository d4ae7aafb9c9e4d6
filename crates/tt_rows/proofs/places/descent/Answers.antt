use Rattle.std.proofs.Common.{◌≡◌, ◌*◌, ◌^◌, ◌≤◌, arith, rules}
use Rattle.std.proofs.lemmas.Nat.{mul-le}
use Rattle.tt_rows.proofs.places.descent.Goals as goal

pub overflow_mul-result : goal.overflow_mul-result
overflow_mul-result c =
    let same : c.from.result ≡ c.args.step = search rules in
    let most : c.args.more * c.from.result ≤ 4096 * 2 ^ 21 = mul-le c.args.more c.from.result 4096 (2 ^ 21) c.requires.more (omega (arith, same, c.requires.step)) in
    omega (arith, most)

pub returns-clause-bound : goal.returns-clause-bound
returns-clause-bound c =
    let same : c.from.result ≡ c.args.step = search rules in
    let most : c.args.more * c.from.result ≤ 4096 * 2 ^ 21 = mul-le c.args.more c.from.result 4096 (2 ^ 21) c.requires.more (omega (arith, same, c.requires.step)) in
    omega (arith, most)
