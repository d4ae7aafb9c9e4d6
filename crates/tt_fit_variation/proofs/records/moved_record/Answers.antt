use Rattle.std.proofs.Common.{◌≡◌, true, SFits, w16, w32, w64, rules, arith}
use Rattle.std.proofs.lemmas.Int.{to_z-of_z}
use Rattle.std.proofs.lemmas.Result.{err_from_is_err_and}
use Rattle.tt_glyf.specs.Format.{args_are_xy_values, has}
use Rattle.tt_fit_variation.proofs.RecordsMade.{both-made, first-out, second-out}
use Rattle.tt_fit_variation.proofs.records.moved_record.Goals as goal

pub returns-in_err-arg1-clause-exact : goal.returns-in_err-arg1-clause-exact
returns-in_err-arg1-clause-exact c =
    let offsets : has c.args.part.flags args_are_xy_values ≡ true = grind (arith, c.has.ensures, c.if-not-has.false) in
    let first_v : SFits w32 c.args.part.arg1 = search rules in
    let first_d : SFits w64 c.args.x.delta = search rules in
    let first_m : SFits w64 c.moved_argument.result = search rules in
    let first_is = simp to_z-of_z at c.moved_argument.ensures.exact in
    let first_err = simp to_z-of_z at c.in_err-arg1.ensures.err in
    let first = rw first_is at first_err.1 in
    let p = err_from_is_err_and c.from_residual.result c.from_residual.ensures.1 in
    rw (p.1, p.2, first_err.0) (first-out c.args.part c.args.x c.args.y offsets first)

pub returns-in_err-arg2-clause-exact : goal.returns-in_err-arg2-clause-exact
returns-in_err-arg2-clause-exact c =
    let offsets : has c.args.part.flags args_are_xy_values ≡ true = grind (arith, c.has.ensures, c.if-not-has.false) in
    let first_v : SFits w32 c.args.part.arg1 = search rules in
    let first_d : SFits w64 c.args.x.delta = search rules in
    let first_m : SFits w64 c.moved_argument.result = search rules in
    let first_is = simp to_z-of_z at c.moved_argument.ensures.exact in
    let first_ok = simp to_z-of_z at c.in_ok-arg1.ensures.ok in
    let first = rw first_is at first_ok.1 in
    let second_v : SFits w32 c.args.part.arg2 = search rules in
    let second_d : SFits w64 c.args.y.delta = search rules in
    let second_m : SFits w64 c.moved_argument-2.result = search rules in
    let second_is = simp to_z-of_z at c.moved_argument-2.ensures.exact in
    let second_err = simp to_z-of_z at c.in_err-arg2.ensures.err in
    let second = rw second_is at second_err.1 in
    let p = err_from_is_err_and c.from_residual-in_err-arg2.result c.from_residual-in_err-arg2.ensures.1 in
    rw (p.1, p.2, second_err.0) (second-out c.args.part c.args.x c.args.y offsets first second)

pub returns-clause-exact : goal.returns-clause-exact
returns-clause-exact c =
    let offsets : has c.args.part.flags args_are_xy_values ≡ true = grind (arith, c.has.ensures, c.if-not-has.false) in
    let first_v : SFits w32 c.args.part.arg1 = search rules in
    let first_d : SFits w64 c.args.x.delta = search rules in
    let first_m : SFits w64 c.moved_argument.result = search rules in
    let first_is = simp to_z-of_z at c.moved_argument.ensures.exact in
    let first_ok = simp to_z-of_z at c.in_ok-arg1.ensures.ok in
    let first = rw first_is at first_ok.1 in
    let second_v : SFits w32 c.args.part.arg2 = search rules in
    let second_d : SFits w64 c.args.y.delta = search rules in
    let second_m : SFits w64 c.moved_argument-2.result = search rules in
    let second_is = simp to_z-of_z at c.moved_argument-2.ensures.exact in
    let second_ok = simp to_z-of_z at c.in_ok-arg2.ensures.ok in
    let second = rw second_is at second_ok.1 in
    let xx : SFits w16 c.args.part.xx = search rules in
    let yx : SFits w16 c.args.part.yx = search rules in
    let xy : SFits w16 c.args.part.xy = search rules in
    let yy : SFits w16 c.args.part.yy = search rules in
    let first_w : SFits w16 c.in_ok-arg1.arg1 = search rules in
    let second_w : SFits w16 c.in_ok-arg2.arg2 = search rules in
    let first_f : SFits w32 c.from.result = search rules in
    let second_f : SFits w32 c.from-2.result = search rules in
    let first_from = simp to_z-of_z at c.from.ensures in
    let second_from = simp to_z-of_z at c.from-2.ensures in
    simp to_z-of_z (rw (first_from, first_ok.0, first_is, second_from, second_ok.0, second_is)
    (both-made c.args.part c.args.x c.args.y offsets first second))
