use Rattle.std.proofs.Common.{◌-◌, length, length-drop, drop, arith}
use Rattle.std.proofs.lemmas.List.{take_all}
use Rattle.tt_deltas_inference.specs.Sweeps.{swept}
use Rattle.tt_deltas_inference.proofs.Swept.{written_to_end, after_run}
use Rattle.tt_deltas_inference.proofs.contour.sweep.Goals as goal

pub loop-start-preserved : goal.loop-start-preserved
loop-start-preserved c =
    let start = c.loop-start.start in
    let now = c.loop-start.points in
    let old = c.args.points.now in
    let part = c.next_run-run.new.points in
    let place = c.loop-start.invariant.place in
    let whole = take_all (length now - start) (drop start now) (omega (arith, length-drop start now)) in
    let run = rw whole at c.next_run-run.ensures in
    let far = after_run c.loop-start.before c.args.first (swept c.args.last c.args.first old) now old part start
    c.next_run-run.result.len c.next_run-run.result.last (record {
      place = place;
      so_far = c.loop-start.invariant.so_far;
      rest = c.loop-start.invariant.rest;
    }) run in
    rw (written_to_end now part start place) (record {
      place = far.place;
      so_far = far.so_far;
      rest = far.rest;
      given = run.given;
    })
