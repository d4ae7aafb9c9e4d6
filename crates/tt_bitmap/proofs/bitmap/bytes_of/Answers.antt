use Rattle.std.proofs.Common.{◌*◌, ◌^◌, ◌≤◌, refl, arith}
use Rattle.std.proofs.lemmas.Nat.{mul-le}
use Rattle.tt_bitmap.specs.Bitmaps.{strips}
use Rattle.tt_bitmap.proofs.bitmap.bytes_of.Goals as goal

pub overflow_mul-result : goal.overflow_mul-result
overflow_mul-result c =
    let few : strips c.args.width ≤ 2 ^ 20 = omega (arith, c.requires.width) in
    let all : strips c.args.width * c.args.height ≤ 2 ^ 20 * 2 ^ 20 = mul-le (strips c.args.width) c.args.height (2 ^ 20) (2 ^ 20) few (omega (arith, c.requires.height)) in
    rw c.strips_of.ensures (omega (arith, all))

pub overflow_mul-result-2 : goal.overflow_mul-result-2
overflow_mul-result-2 c =
    let few : strips c.args.width ≤ 2 ^ 20 = omega (arith, c.requires.width) in
    let all : strips c.args.width * c.args.height ≤ 2 ^ 20 * 2 ^ 20 = mul-le (strips c.args.width) c.args.height (2 ^ 20) (2 ^ 20) few (omega (arith, c.requires.height)) in
    rw c.strips_of.ensures (omega (arith, all))

pub returns : goal.returns
returns c = rw c.strips_of.ensures refl
