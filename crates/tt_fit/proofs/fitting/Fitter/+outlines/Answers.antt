use Rattle.std.proofs.Common.{◌∙◌, ◌<◌, arith}
use Rattle.std.proofs.lemmas.Result.{err_from_is_err_and}
use Rattle.tt_fit.specs.Fitting.{with_hinting, added, added_work}
use Rattle.tt_fit_outline.specs.Views.{outline_of}
use Rattle.tt_fit_hinting.specs.Views.{hinting_view}
use Rattle.tt_fit.proofs.Levels.{one_record_more, one_record_paid, one_record_refused, one_level_done, one_level_work}
use Rattle.tt_fit.proofs.fitting.Fitter.+outlines.Goals as goal

pub joined-loop-part-preserved : goal.joined-loop-part-preserved
joined-loop-part-preserved t c =
    let add = added (with_hinting c.args.self.now (hinting_view c.args.hinting.now)) c.args.levels in
    let work = added_work (with_hinting c.args.self.now (hinting_view c.args.hinting.now)) c.args.levels in
    record {
      so_far = one_record_more add c.args.records.now c.loop-part.part-index _ (outline_of c.loop-part.so_far)
          (outline_of c.in_ok-so_far.so_far) c.loop-part-test.true c.in_ok-so_far.ensures.exact
          ∙ c.loop-part.invariant.so_far;
      work = one_record_paid add work c.args.records.now c.loop-part.part-index _ (outline_of c.loop-part.so_far)
          (outline_of c.in_ok-so_far.so_far) _ _ c.loop-part-test.true c.in_ok-so_far.ensures.exact
          c.in_ok-so_far.ensures.work ∙ c.loop-part.invariant.work;
    }

pub joined-returns-in_err-so_far-clause-work : goal.joined-returns-in_err-so_far-clause-work
joined-returns-in_err-so_far-clause-work t c =
    let add = added (with_hinting c.args.self.now (hinting_view c.args.hinting.now)) c.args.levels in
    let work = added_work (with_hinting c.args.self.now (hinting_view c.args.hinting.now)) c.args.levels in
    let e = err_from_is_err_and c.from_residual.result c.from_residual.ensures.1 in
    rw (e.1, e.2, ← c.loop-part.invariant.work)
    (one_record_refused add work c.args.records.now c.loop-part.part-index _ (outline_of c.loop-part.so_far) _ _ _
    c.loop-part-test.true c.in_err-so_far.ensures.exact c.in_err-so_far.ensures.work)

pub added-returns-in_err-component-clause-work : goal.added-returns-in_err-component-clause-work
added-returns-in_err-component-clause-work t c =
    let s = with_hinting c.args.self.now (hinting_view c.args.hinting.now) in
    let some : 0 < c.args.levels = omega (arith, c.if-levels-eq0.false) in
    let e = err_from_is_err_and c.from_residual.result c.from_residual.ensures.1 in
    rw (e.1, e.2, one_level_work s c.args.levels c.args.part c.args.runner.now.work.left some) c.in_err-component.ensures.work

pub added-returns-clause-work : goal.added-returns-clause-work
added-returns-clause-work t c =
    let s = with_hinting c.args.self.now (hinting_view c.args.hinting.now) in
    let some : 0 < c.args.levels = omega (arith, c.if-levels-eq0.false) in
    rw (one_level_work s c.args.levels c.args.part c.args.runner.now.work.left some) c.in_ok-component.ensures.work

pub added-returns-clause-exact : goal.added-returns-clause-exact
added-returns-clause-exact t c =
    let s = with_hinting c.args.self.now (hinting_view c.args.hinting.now) in
    let some : 0 < c.args.levels = omega (arith, c.if-levels-eq0.false) in
    let placed = rw (c.glyph_grid-grid.ensures, c.size.ensures) at c.in_ok-placed.ensures.exact in
    rw (one_level_done s c.args.levels c.args.part (outline_of c.args.so_far)
    (outline_of c.in_ok-component.component) some c.in_ok-component.ensures.exact) placed
