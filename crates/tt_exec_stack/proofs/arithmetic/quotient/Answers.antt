use Rattle.std.proofs.Common.{◌^◌, ◌<◌, ◌*ℤ◌, ℤ, pos, negsuc, suc, unsigned_abs, SFits, w32, w64, rules, arith}
use Rattle.std.specs.Prelude.{int_div}
use Rattle.std.proofs.Math.Nat.{div-le_self}
use Rattle.std.proofs.lemmas.Int.{ints, to_z-of_z}
use Rattle.tt_exec_stack.proofs.arithmetic.quotient.Goals as goal

-- a quotient is at most as far from 0 as its dividend
quotient_fits : (a b : ℤ) → unsigned_abs a < 2 ^ 38 → SFits w64 (int_div a b)
quotient_fits (pos a) (pos b) few = omega (arith, ints, div-le_self a b)
quotient_fits (pos a) (negsuc b) few = omega (arith, ints, div-le_self a (suc b))
quotient_fits (negsuc a) (pos b) few = omega (arith, ints, div-le_self (suc a) b)
quotient_fits (negsuc a) (negsuc b) few = omega (arith, ints, div-le_self (suc a) (suc b))

pub returns : goal.returns
returns c =
    let a : SFits w32 c.args.a = c.ranges.a in
    let b : SFits w32 c.args.b = c.ranges.b in
    let over : SFits w64 c.args.a = omega (arith, ints) in
    let under : SFits w64 c.args.b = omega (arith, ints) in
    let is_a = simp to_z-of_z at c.from.ensures in
    let is_b = simp to_z-of_z at c.from-2.ensures in
    let scaled : SFits w64 (c.args.a *ℤ pos 64) = omega (arith, ints) in
    let cut : SFits w64 (int_div (c.args.a *ℤ pos 64) c.args.b) =
    quotient_fits (c.args.a *ℤ pos 64) c.args.b (omega (arith, ints)) in
    rw (is_a, is_b) (simp to_z-of_z)
