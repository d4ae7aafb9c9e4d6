use Rattle.std.proofs.Common.{◌≡◌, ◌∙◌, ◌<◌, length, get_or, arith}
use Rattle.tt_deltas_inference.specs.Inference as is
use Rattle.tt_deltas_inference.proofs.Filled.{blank, same_point, filled_more, rest_more}
use Rattle.tt_deltas_inference.proofs.contour.fill.Goals as goal

pub placed-requires : goal.placed-requires
placed-requires c =
    let i = c.loop-p.p-index in
    let here : i < length c.loop-p.points = omega (arith, c.loop-p-test.true, c.loop-p.auto.points) in
    rw (same_point c.loop-p.points c.args.points.now i blank here c.loop-p-test.true c.loop-p.invariant.rest)
    (c.requires.points i blank c.loop-p-test.true)

pub loop-p-preserved : goal.loop-p-preserved
loop-p-preserved c =
    let f = is.inferred c.args.before c.args.after in
    let i = c.loop-p.p-index in
    let here : i < length c.loop-p.points = omega (arith, c.loop-p-test.true, c.loop-p.auto.points) in
    let made : c.placed.result ≡ f (get_or c.loop-p.points i blank) =
    c.placed.ensures ∙ c.of-between.ensures (get_or c.loop-p.points i blank) in
    record {
      so_far = filled_more f c.loop-p.points c.args.points.now i blank c.placed.result here c.loop-p-test.true
          c.loop-p.invariant.so_far c.loop-p.invariant.rest made;
      rest = rest_more c.loop-p.points c.args.points.now i c.placed.result c.loop-p.invariant.rest;
    }
