use Rattle.std.proofs.Common.{◌≡◌, ◌∙◌, IfSome, ap, subst}
use Rattle.tt_fit.proofs.MadeFor.{at-cost}
use Rattle.tt_fit.specs.Fitting.{Fitter, after_glyph}
use Rattle.tt_fit.specs.GlyphCost.{HadWork}
use Rattle.tt_fit.specs.Views.{fallback_view}
use Rattle.tt_fit_outline.specs.Views.{outline_of}
use Rattle.tt_fit.proofs.fitting.Fitter.fit_with_cost.Goals as goal

pub returns-clause-cost : goal.returns-clause-cost
returns-clause-cost c =
    let s = c.args.self.now in
    let reason = c.in_ok-outline.outline.unfitted in
    let cost = c.cost_of-cost.result in
    let falls : fallback_view c.self.inside.fallback ≡ s.fallback = ap (λ (f : Fitter). f.fallback) c.self.view_is in
    let before : c.self.inside.work.left ≡ s.work = ap (λ (f : Fitter). f.work) c.self.view_is in
    let after : c.self-2.inside.work.left ≡ (after_glyph s c.args.g).work =
    ap (λ (f : Fitter). f.work) c.self-2.view_is ∙ ap (λ (f : Fitter). f.work) c.in_ok-outline.ensures.after in
    at-cost s c.args.g (outline_of c.in_ok-outline.outline) reason cost c.in_ok-outline.ensures.exact
    c.in_ok-outline.ensures.unfitted
    (subst (λ fallback. IfSome cost (λ n. HadWork fallback reason)) falls c.cost_of-cost.ensures.had)
    (rw (before, after) at c.cost_of-cost.ensures.cost)
