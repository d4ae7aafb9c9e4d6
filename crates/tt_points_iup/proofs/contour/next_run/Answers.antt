use Rattle.std.proofs.Common.{◌≡◌, ◌∙◌, ◌+◌, ◌<◌, length, drop, get_or, length-drop, sym, arith}
use Rattle.std.proofs.lemmas.List.{get_or-drop}
use Rattle.std.proofs.lemmas.Result.{err_from_is_err_and}
use Rattle.tt_points_iup.proofs.Filled.{blank}
use Rattle.tt_points_iup.proofs.Runs.{run_finishes, run_finishes_outside, run_reaches, run_reaches_outside}
use Rattle.tt_points_iup.proofs.contour.next_run.Goals as goal

pub returns-in_err-fill-clause-fault : goal.returns-in_err-fill-clause-fault
returns-in_err-fill-clause-fault c =
    let old = drop c.args.start c.args.contour.now.points.now in
    let left = length-drop c.args.start c.args.contour.now.points.now in
    let searched = c.untouched-len.ensures in
    let len = rw searched.unchanged at c.len.ensures in
    let long : c.untouched-len.result ≡ length old =
    omega (arith, left, c.if-start-len.true, len, c.requires.start) in
    let made = rw (searched.along, searched.unchanged) at c.in_err-fill.ensures.exact in
    let bad = run_finishes_outside c.args.contour.now.along c.args.around.before.point c.args.around.after.point old
    c.untouched-len.result c.in_err-fill.field-0.0 long searched.none made in
    let p = err_from_is_err_and c.from_residual.result c.from_residual.ensures.1 in
    rw (p.1, p.2) bad

pub returns-then-start-len-clause-run : goal.returns-then-start-len-clause-run
returns-then-start-len-clause-run c =
    let old = drop c.args.start c.args.contour.now.points.now in
    let new = drop c.args.start c.fill.new.contour.points.now in
    let left = length-drop c.args.start c.args.contour.now.points.now in
    let now = length-drop c.args.start c.fill.new.contour.points.now in
    let searched = c.untouched-len.ensures in
    let len = rw searched.unchanged at c.len.ensures in
    let many = rw searched.unchanged at c.in_ok-fill.ensures.many in
    let some : 0 < length old = omega (arith, left, c.requires.start) in
    let long : c.untouched-len.result ≡ length old =
    omega (arith, left, c.if-start-len.true, len, c.requires.start) in
    let same : length new ≡ length old = omega (arith, left, now, many) in
    let made = rw (searched.along, searched.unchanged) at c.in_ok-fill.ensures.exact in
    run_finishes c.args.contour.now.along c.args.around.before.point c.args.around.after.point old new c.untouched-len.result some
    long same searched.none made

pub returns-in_err-fill-2-clause-fault : goal.returns-in_err-fill-2-clause-fault
returns-in_err-fill-2-clause-fault c =
    let points = c.args.contour.now.points.now in
    let start = c.args.start in
    let n = c.untouched-len.result in
    let old = drop start points in
    let left = length-drop start points in
    let searched = c.untouched-len.ensures in
    let len = rw searched.unchanged at c.len.ensures in
    let far : start + n < length points = omega (arith, c.if-start-len.false, len, searched.bound) in
    let inside : n < length old = omega (arith, left, far) in
    let last = rw searched.unchanged at (c.at-last.ensures blank) in
    let is : c.at-last.result.point ≡ get_or old n blank = last ∙ sym (get_or-drop start points n blank) in
    let made = rw (searched.along, searched.unchanged) at c.in_err-fill-2.ensures.exact in
    let bad = run_reaches_outside c.args.contour.now.along c.args.around.before.point c.args.around.after.point c.at-last.result.point
    old n blank c.in_err-fill-2.field-0.0 inside searched.none (searched.end blank far) is made in
    let p = err_from_is_err_and c.from_residual-in_err-fill-2.result c.from_residual-in_err-fill-2.ensures.1 in
    rw (p.1, p.2) bad

pub returns-clause-run : goal.returns-clause-run
returns-clause-run c =
    let points = c.args.contour.now.points.now in
    let start = c.args.start in
    let n = c.untouched-len.result in
    let old = drop start points in
    let left = length-drop start points in
    let searched = c.untouched-len.ensures in
    let len = rw searched.unchanged at c.len.ensures in
    let far : start + n < length points = omega (arith, c.if-start-len.false, len, searched.bound) in
    let inside : n < length old = omega (arith, left, far) in
    let last = rw searched.unchanged at (c.at-last.ensures blank) in
    let is : c.at-last.result.point ≡ get_or old n blank = last ∙ sym (get_or-drop start points n blank) in
    let made = rw (searched.along, searched.unchanged) at c.in_ok-fill-2.ensures.exact in
    let back = rw searched.unchanged at c.in_ok-fill-2.ensures.back in
    run_reaches c.args.contour.now.along c.args.around.before.point c.args.around.after.point c.at-last.result.point old (drop start
    c.fill-2.new.contour.points.now) n blank inside searched.none (searched.end blank far) is made back
