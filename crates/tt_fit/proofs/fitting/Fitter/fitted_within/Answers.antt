use Rattle.std.proofs.Common.{◌≡◌, ◌∙◌, sym, arith}
use Rattle.tt_fit.specs.Fallback.{never, where_refused, everywhere}
use Rattle.tt_fit_outline.specs.Views.{outline_of}
use Rattle.tt_fit_hinting.specs.Views.{hinting_view}
use Rattle.tt_fit.proofs.Falling.{unfitted-everywhere, left-where-never, left-where-everywhere, left-where-enough, made-by-programs, pays-too, on-ok, on-told}
use Rattle.tt_fit.proofs.fitting.Fitter.fitted_within.Goals as goal

pub returns-in-Everywhere-clause-unfitted : goal.returns-in-Everywhere-clause-unfitted
returns-in-Everywhere-clause-unfitted c =
    let fault = c.in-Everywhere.fault in
    let everywhere_so : c.args.self.now.fallback ≡ everywhere fault = grind (arith, c.self.view_is, c.in-Everywhere.is) in
    rw (unfitted-everywhere c.args.self.now c.args.g fault everywhere_so) c.marked-in-Everywhere.ensures.unfitted

pub returns-in-Never-clause-left : goal.returns-in-Never-clause-left
returns-in-Never-clause-left c =
    let never_so : c.args.self.now.fallback ≡ never = grind (arith, c.self.view_is, c.in-Never.is) in
    on-ok c.marked.result _
    (c.marked.ensures.left ∙ c.requires.work ∙ sym (left-where-never c.args.self.now c.args.g never_so))

pub returns-in-Everywhere-clause-left : goal.returns-in-Everywhere-clause-left
returns-in-Everywhere-clause-left c =
    let fault = c.in-Everywhere.fault in
    let everywhere_so : c.args.self.now.fallback ≡ everywhere fault = grind (arith, c.self.view_is, c.in-Everywhere.is) in
    on-ok c.marked-in-Everywhere.result _
    (c.marked-in-Everywhere.ensures.left ∙ c.requires.work ∙ sym (left-where-everywhere c.args.self.now c.args.g fault everywhere_so))

pub returns-in-Ok-clause-exact : goal.returns-in-Ok-clause-exact
returns-in-Ok-clause-exact c =
    let s = c.args.self.now in
    let refused_so : s.fallback ≡ where_refused = grind (arith, c.self.view_is, c.in-WhereRefused.is) in
    let hinting : s.hinting ≡ hinting_view c.as_ref-hinting.result.now = rw c.as_ref-hinting.ensures (grind (arith, c.self.view_is)) in
    let levels : s.levels ≡ c.self.inside.levels = grind (arith, c.self.view_is) in
    made-by-programs s c.args.g (hinting_view c.as_ref-hinting.result.now) (outline_of c.in-Ok.outline) _ _
    refused_so hinting c.requires.work (rw (← levels) at c.in-Ok.ensures.work) (rw (← levels) at c.in-Ok.ensures.exact)

pub returns-in-Ok-clause-left : goal.returns-in-Ok-clause-left
returns-in-Ok-clause-left c =
    let s = c.args.self.now in
    let refused_so : s.fallback ≡ where_refused = grind (arith, c.self.view_is, c.in-WhereRefused.is) in
    let hinting : s.hinting ≡ hinting_view c.as_ref-hinting.result.now = rw c.as_ref-hinting.ensures (grind (arith, c.self.view_is)) in
    let levels : s.levels ≡ c.self.inside.levels = grind (arith, c.self.view_is) in
    let pays = pays-too s c.args.g (hinting_view c.as_ref-hinting.result.now) _ _ hinting c.requires.work
    (rw (← levels) at c.in-Ok.ensures.work) in
    sym (left-where-enough s c.args.g _ refused_so pays)

pub returns-in-Never-clause-refused : goal.returns-in-Never-clause-refused
returns-in-Never-clause-refused c =
    let never_so : c.args.self.now.fallback ≡ never = grind (arith, c.self.view_is, c.in-Never.is) in
    on-told c.marked.result _
    (c.marked.ensures.left ∙ c.requires.work ∙ sym (left-where-never c.args.self.now c.args.g never_so))

pub returns-in-Everywhere-clause-refused : goal.returns-in-Everywhere-clause-refused
returns-in-Everywhere-clause-refused c =
    let fault = c.in-Everywhere.fault in
    let everywhere_so : c.args.self.now.fallback ≡ everywhere fault = grind (arith, c.self.view_is, c.in-Everywhere.is) in
    on-told c.marked-in-Everywhere.result _
    (c.marked-in-Everywhere.ensures.left ∙ c.requires.work ∙ sym (left-where-everywhere c.args.self.now c.args.g fault everywhere_so))
