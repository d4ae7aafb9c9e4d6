use Rattle.std.proofs.Common.{◌≡◌, Ok, refl}
use Rattle.std.proofs.lemmas.Result.{IfOk-weaker}
use Rattle.std.specs.Prelude.{IsOkAnd}
use Rattle.tt_picture.specs.Pictures.{IsReady, Picture}
use Rattle.tt_picture.specs.Unfitted.{ListsOnce}
use Rattle.tt_strike.specs.Costs.{cost_by}
use Rattle.tt_strike.specs.Picture.{laid_out}
use Rattle.tt_strike.specs.Report.{report_by}
use Rattle.tt_strike.specs.Reported.{IsReported}
use Rattle.tt_strike.specs.Strikes.{job_by}
use Rattle.tt_strike.proofs.Reported.{reported_text}
use Rattle.tt_strike.proofs.strike.Strike.grown_line.Goals as goal

pub returns-clause-frame : goal.returns-clause-frame
returns-clause-frame c = rw (← c.self.view_is) c.draw_grown.ensures.frame

pub returns-clause-valid : goal.returns-clause-valid
returns-clause-valid c =
    let z = c.self.inside.sized in
    let a = job_by z c.args.text.now c.args.margin in
    IfOk-weaker c.draw_grown.result (λ (p : Picture). IsOkAnd (laid_out z.face a) (λ l. IsReported z.face a l p)) IsReady
    (λ p is. (reported_text z.face a p is).ready) c.draw_grown.ensures.reported

pub returns-clause-report : goal.returns-clause-report
returns-clause-report c =
    let z = c.self.inside.sized in
    let a = job_by z c.args.text.now c.args.margin in
    rw (← c.self.view_is) (IfOk-weaker c.draw_grown.result (λ (p : Picture). IsOkAnd (laid_out z.face a) (λ l. IsReported z.face a l p))
    (λ (p : Picture). report_by z.face a ≡ Ok p.unfitted) (λ p is. (reported_text z.face a p is).report) c.draw_grown.ensures.reported)

pub returns-clause-once : goal.returns-clause-once
returns-clause-once c =
    let z = c.self.inside.sized in
    let a = job_by z c.args.text.now c.args.margin in
    IfOk-weaker c.draw_grown.result (λ (p : Picture). IsOkAnd (laid_out z.face a) (λ l. IsReported z.face a l p))
    (λ (p : Picture). ListsOnce p.unfitted) (λ p is. (reported_text z.face a p is).once) c.draw_grown.ensures.reported

pub returns-clause-cost : goal.returns-clause-cost
returns-clause-cost c =
    let z = c.self.inside.sized in
    let a = job_by z c.args.text.now c.args.margin in
    rw (← c.self.view_is) (IfOk-weaker c.draw_grown.result (λ (p : Picture). IsOkAnd (laid_out z.face a) (λ l. IsReported z.face a l p))
    (λ (p : Picture). cost_by z.face a ≡ Ok p.cost) (λ p is. (reported_text z.face a p is).cost) c.draw_grown.ensures.reported)

pub returns-clause-exact : goal.returns-clause-exact
returns-clause-exact c = rw (← c.self.view_is) c.draw_grown.ensures.exact

pub returns-clause-defects : goal.returns-clause-defects
returns-clause-defects c = rw (← c.self.view_is) c.draw_grown.ensures.defects

pub invariant_of-self : goal.invariant_of-self
invariant_of-self c =
    let before = c.self.invariant in (
      rw c.draw_grown.ensures.same c.draw_grown.ensures.cache,
      rw c.draw_grown.ensures.limit before.1,
    )

pub returns-clause-same : goal.returns-clause-same
returns-clause-same c = rw (c.draw_grown.ensures.same, ← c.self.view_is) refl
