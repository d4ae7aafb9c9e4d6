use Rattle.std.proofs.Common.{◌+◌, ◌++◌, ◌∙◌, sym, refl, map, All, arith}
use Rattle.std.proofs.Math.ListN.{replicate}
use Rattle.std.proofs.lemmas.List.Elements.{All-append, All-replicate}
use Rattle.std.proofs.lemmas.Result.{err_from_is_err_and}
use Rattle.tt_glyf.specs.InPlace.{held_flag, held_of, HoldsFlag}
use Rattle.tt_glyf.specs.Views.{run_of}
use Rattle.tt_glyf.proofs.InPlace.{flags-more, held-more}
use Rattle.tt_glyf.proofs.Runs.{turn, breaks, done}
use Rattle.tt_glyf.proofs.flags.read_flags.Goals as goal

pub returns-in_err-run-clause-exact : goal.returns-in_err-run-clause-exact
unfolding held_of
returns-in_err-run-clause-exact c =
    let end = breaks c.args.glyph.now (map held_flag c.loop-left.points.items) c.loop-left.next c.loop-left.left
    c.in_err-run.field-0.0 (omega arith) c.in_err-run.ensures.exact in
    let p = err_from_is_err_and c.from_residual-in_err-run.result c.from_residual-in_err-run.ensures.1 in
    let flags = c.loop-left.invariant.0 in
    rw (p.1, p.2, ← flags, end) refl

pub loop-left-preserved : goal.loop-left-preserved
loop-left-preserved c =
    let pushed = c.push_copies.ensures.pushed in
    let point = c.held.ensures.exact in
    let copies = c.in_ok-run.run'.copies + 1 in
    let flag = c.in_ok-run.run'.flag in
    let step = turn c.args.glyph.now (map held_flag c.loop-left.points.items) c.loop-left.next c.loop-left.left
    (run_of c.in_ok-run.run') (omega arith) c.in_ok-run.ensures.within c.in_ok-run.ensures.exact in
    let more = flags-more c.loop-left.points.items copies flag in
    let all : All HoldsFlag (c.loop-left.points.items ++ replicate copies c.held.result) = All-append HoldsFlag _ _
    c.loop-left.invariant.2 (All-replicate HoldsFlag copies c.held.result c.held.ensures.holds) in (
      rw (pushed, point, more) (sym step ∙ c.loop-left.invariant.0),
      rw (pushed, point) (held-more c.loop-left.points.items copies flag c.loop-left.invariant.1),
      rw pushed all,
      omega (arith, c.push_copies.ensures.grown, c.push_copies.ensures.capacity, c.in_ok-run.ensures.within),
      c.in_ok-run.ensures.room,
    )

pub returns-clause-exact : goal.returns-clause-exact
unfolding held_of
returns-clause-exact c =
    let end = done c.args.glyph.now (map held_flag c.loop-left.points.items) c.loop-left.next c.loop-left.left
    (omega (arith, c.loop-left-test.false)) in
    let flags = c.loop-left.invariant.0 in
    let are = c.loop-left.invariant.1 in
    rw (← flags, end, are) refl
