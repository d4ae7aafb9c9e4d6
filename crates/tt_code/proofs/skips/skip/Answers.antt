use Rattle.std.proofs.Common.{◌≡◌, ◌<◌, length, true, false, rules, sym, ◌∙◌, arith}
use Rattle.tt_code.specs.Skips.{ends}
use Rattle.tt_code.proofs.Going.{halted, ended, further, passed}
use Rattle.tt_code.proofs.Passed.{Told}
use Rattle.tt_code.proofs.skips.skip.Goals as goal

pub returns-in_err-i-clause-exact : goal.returns-in_err-i-clause-exact
returns-in_err-i-clause-exact c =
    let inside : c.instructions.place < length c.args.code.now = omega arith in
    let whole = halted _ inside c.instructions.invariant.goes_on c.in_err-i.ensures.exact in
    rw whole (search rules)

pub returns-then-is_end-clause-exact : goal.returns-then-is_end-clause-exact
returns-then-is_end-clause-exact c =
    let inside : c.instructions.place < length c.args.code.now = omega arith in
    let end : ends c.args.sought c.instructions.depth c.in_ok-i.i.op ≡ true = sym c.is_end.ensures ∙ c.if-is_end.true in
    ended _ inside c.instructions.invariant.goes_on c.in_ok-i.ensures.exact end

pub instructions-preserved : goal.instructions-preserved
instructions-preserved c =
    let inside : c.instructions.place < length c.args.code.now = omega arith in
    let none : ends c.args.sought c.instructions.depth c.in_ok-i.i.op ≡ false =
    sym c.is_end.ensures ∙ c.if-is_end.false in
    let on = further _ inside c.instructions.invariant.goes_on c.in_ok-i.ensures.exact none c.in_ok-i.ensures.some in
    record {
      begun = omega (arith, c.in_ok-i.ensures.some);
      few = omega (arith, c.in_ok-i.ensures.some, c.depth_after-depth.ensures.bound);
      within = c.in_ok-i.ensures.within;
      goes_on = rw c.depth_after-depth.ensures.exact on;
    }

pub instructions-preserved-then-next_place-code : goal.instructions-preserved-then-next_place-code
instructions-preserved-then-next_place-code c =
    let some : 0 < c.passed.result = omega arith in
    let is = c.passed.ensures in
    let told : Told _ c.passed.result = record { len = is.len some; inside = is.inside some; level = is.level some } in
    record {
      begun = omega arith;
      few = omega arith;
      within = omega arith;
      goes_on = passed c.passed.result some (omega arith) c.instructions.invariant.goes_on told;
    }
