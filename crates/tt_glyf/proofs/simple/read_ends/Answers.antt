use Rattle.std.proofs.Common.{◌+◌, ◌-◌, ◌*◌, arith}
use Rattle.std.proofs.lemmas.Result.{err_from_is_err_and}
use Rattle.tt_glyf.proofs.Contours.{breaks}
use Rattle.tt_glyf.proofs.simple.read_ends.Goals as goal

pub returns-in_err-before-clause-exact : goal.returns-in_err-before-clause-exact
returns-in_err-before-clause-exact c =
    let end = breaks c.args.glyph.now c.loop-i.ends.items (10 + 2 * c.loop-i.i) (c.args.contours - c.loop-i.i)
    c.loop-i.before c.in_err-before.field-0.0 (omega arith) c.in_err-before.ensures.exact in
    let p = err_from_is_err_and c.from_residual-in_err-before.result c.from_residual-in_err-before.ensures.1 in
    rw (p.1, p.2) cc
