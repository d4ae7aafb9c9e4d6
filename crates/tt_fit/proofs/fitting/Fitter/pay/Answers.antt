use Rattle.std.proofs.Common.{◌≡◌, ◌∙◌, ◌+◌, Some, None, sym, ap, arith}
use Rattle.tt_fit.proofs.WorkApart.{own-work, paid-is-made}
use Rattle.tt_fit.specs.Fitting.{Fitter, with_work}
use Rattle.tt_fit.proofs.fitting.Fitter.pay.Goals as goal

pub returns-in-None-clause-made : goal.returns-in-None-clause-made
returns-in-None-clause-made c = λ is g o reason made.
    let s = c.args.self.now in
    let at : s.work ≡ None = grind (arith, c.self.view_is, c.in-None.is) in
    paid-is-made s s g c.args.cost o reason made (None, at, sym (own-work s None at))

pub returns-in-Some-checked_sub-clause-made : goal.returns-in-Some-checked_sub-clause-made
returns-in-Some-checked_sub-clause-made c = λ is g o reason made.
    let s = c.args.self.now in
    let rest = c.in-Some-checked_sub.rest in
    let at : s.work ≡ Some c.in-Some.left = grind (arith, c.self.view_is, c.in-Some.is) in
    let paid = c.in-Some-checked_sub.ensures in
    let sum : c.in-Some.left ≡ rest + c.args.cost = omega (arith, paid.0, paid.1) in
    let after = ap {A = Fitter} (λ t. with_work t c.of-self-inside.result.left) c.self.view_is
    ∙ ap (with_work s) c.of-self-inside.ensures in
    paid-is-made s _ g c.args.cost o reason made (Some rest, at ∙ ap Some sum, after)
