use Rattle.std.proofs.Common.{◌≡◌, ◌∙◌, ap, sym}
use Rattle.tt_fit.specs.GlyphCost.{IsMade, IsMadeFor}
use Rattle.tt_strike_kept.specs.Glyph.{KeptGlyph}
use Rattle.tt_picture.specs.Cached.{IsCached}
use Rattle.tt_picture.proofs.Cached.{one_found}
use Rattle.tt_picture.proofs.CutGlyphs.{paid_is_fitted, same_cost}
use Rattle.tt_picture.proofs.fitted.FittedGlyph.of.Goals.{After-pay, in-Some+else-pay, in_default}
use Rattle.tt_picture.proofs.fitted.FittedGlyph.of.Goals as goal

-- the cached glyph of this number
found : (c : After-pay) → IsCached c.args.fitter.now c.args.number c.in-Some.kept
found c = one_found c.args.fitter.now c.args.number c.in-Some.kept c.args.cache.now c.requires.cache c.in-Some.ensures

pub returns-then-pay-clause-fitted : goal.returns-then-pay-clause-fitted
returns-then-pay-clause-fitted c =
    let s = c.args.fitter.now in
    let n = c.args.number in
    let k = c.in-Some.kept in
    let is = found (goal.at.returns-then-pay-clause-fitted c).After-pay in
    let same : c.kept.inside.counts.cost ≡ k.counts.cost = ap (λ (k : KeptGlyph). k.counts.cost) c.kept.view_is in
    let cost : IsMadeFor s n c.kept.inside.counts.cost is.shape k.unfitted =
    same_cost s n c.kept.inside.counts.cost k.counts.cost is.shape k.unfitted same is.made in
    let made : IsMade s n is.shape k.unfitted c.pay.new.self = c.pay.ensures.made c.if-pay.true n is.shape k.unfitted cost in
    record { shape = is.shape; outline = made.outline; body = paid_is_fitted s c.pay.new.self n k is made }

pub returns-then-pay-clause-after : goal.returns-then-pay-clause-after
returns-then-pay-clause-after c =
    let s = c.args.fitter.now in
    let n = c.args.number in
    let k = c.in-Some.kept in
    let is = found (goal.at.returns-then-pay-clause-after c).After-pay in
    let same : c.kept.inside.counts.cost ≡ k.counts.cost = ap (λ (k : KeptGlyph). k.counts.cost) c.kept.view_is in
    let cost : IsMadeFor s n c.kept.inside.counts.cost is.shape k.unfitted =
    same_cost s n c.kept.inside.counts.cost k.counts.cost is.shape k.unfitted same is.made in
    sym (c.pay.ensures.made c.if-pay.true n is.shape k.unfitted cost).after

-- nothing was paid

pub returns-clause-fitted : goal.returns-clause-fitted
returns-clause-fitted c =
    let same : c.match-find.fitter ≡ c.args.fitter.now = elim c.match-find.branch [
      | in-Some+else-pay w ↦ w.fitter-is ∙ w.if-pay.ensures.exact.0
      | in_default w ↦ w.fitter-is
    ] in
    rw (sym same) c.made.ensures.fitted

pub returns-clause-after : goal.returns-clause-after
returns-clause-after c =
    let same : c.match-find.fitter ≡ c.args.fitter.now = elim c.match-find.branch [
      | in-Some+else-pay w ↦ w.fitter-is ∙ w.if-pay.ensures.exact.0
      | in_default w ↦ w.fitter-is
    ] in
    rw (sym same) c.made.ensures.after

pub returns-clause-fault : goal.returns-clause-fault
returns-clause-fault c =
    let same : c.match-find.fitter ≡ c.args.fitter.now = elim c.match-find.branch [
      | in-Some+else-pay w ↦ w.fitter-is ∙ w.if-pay.ensures.exact.0
      | in_default w ↦ w.fitter-is
    ] in
    rw (sym same) c.made.ensures.fault
