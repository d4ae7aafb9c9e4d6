use Rattle.std.proofs.lemmas.Result.{err_from_is_err_and}
use Rattle.tt_line.specs.Layout.{text_glyphs}
use Rattle.tt_strike.specs.Strikes.{SizedFace, job_by}
use Rattle.tt_strike.proofs.TextSteps.{bounded_tells, found_stop_steps, steps_by_found}
use Rattle.tt_strike.proofs.sized.SizedFace.steps.Goals as goal

pub made_steps-requires-clause-bounded : goal.made_steps-requires-clause-bounded
made_steps-requires-clause-bounded c =
    let bounded = rw c.is_bounded.ensures at c.if-is_bounded.true in
    rw (← c.self.view_is) bounded

pub returns-then-is_bounded-clause-defects : goal.returns-then-is_bounded-clause-defects
returns-then-is_bounded-clause-defects c =
    let z : SizedFace = record { face = c.self.inside.source.face.now; ppem = c.self.inside.source.ppem; fit = c.self.inside.source.fit } in
    let bounded = rw c.is_bounded.ensures at c.if-is_bounded.true in
    rw (← c.self.view_is) (bounded_tells z.face (job_by z c.args.text.now 0) (text_glyphs z.face.cmap c.args.text.now)
    c.made_steps.result bounded (rw (← c.self.view_is) at c.made_steps.ensures.defects))

pub returns-in_err-unit_steps-clause-exact : goal.returns-in_err-unit_steps-clause-exact
returns-in_err-unit_steps-clause-exact c =
    let z : SizedFace = record { face = c.self.inside.source.face.now; ppem = c.self.inside.source.ppem; fit = c.self.inside.source.fit } in
    let other = rw c.is_bounded.ensures at c.if-is_bounded.false in
    let p = err_from_is_err_and c.from_residual.result c.from_residual.ensures.1 in
    let fails = rw (← c.self.view_is) at c.in_err-unit_steps.ensures.exact in
    rw (p.1, p.2, ← c.self.view_is) (found_stop_steps z.face (job_by z c.args.text.now 0) c.in_err-unit_steps.field-0.0 other fails)

pub returns-clause-exact : goal.returns-clause-exact
returns-clause-exact c =
    let z : SizedFace = record { face = c.self.inside.source.face.now; ppem = c.self.inside.source.ppem; fit = c.self.inside.source.fit } in
    let other = rw c.is_bounded.ensures at c.if-is_bounded.false in
    let found = rw (← c.self.view_is) at c.in_ok-unit_steps.ensures.exact in
    rw (← c.self.view_is) (steps_by_found z.face (job_by z c.args.text.now 0) c.in_ok-unit_steps.field-0.items other found)

pub returns-clause-defects : goal.returns-clause-defects
returns-clause-defects c =
    let other = rw c.is_bounded.ensures at c.if-is_bounded.false in
    rw (← c.self.view_is, other) (rw (← c.self.view_is) at c.in_ok-unit_steps.ensures.defects)
