use Rattle.std.proofs.Common.{◌≡◌, ◌∙◌, ◌+◌, ◌-◌, ◌<◌, ◌≤◌, arith}
use Rattle.std.proofs.lemmas.Result.{IfOk-weaker}
use Rattle.tt_core.specs.Limits.{point_work_limit}
use Rattle.tt_fit.specs.DeltaCounting.{delta_limit}
use Rattle.tt_strike.specs.Work.{all_counts, glyph_deltas, points_of_all}
use Rattle.tt_strike.proofs.Counts.{after_control, no_more_deltas}
use Rattle.tt_strike.proofs.work.asked_left.Goals as goal

pub returns-in-Some : goal.returns-in-Some
returns-in-Some c =
    let s = c.args.fitter.now in
    let gs = c.args.numbers.now in
    let counted = c.in-Some.ensures in
    let small : s.control_deltas ≤ delta_limit = omega (arith, counted.0, counted.1, c.control_deltas.ensures) in
    let rest : c.in-Some.deltas ≡ delta_limit - s.control_deltas = omega (arith, counted.0, counted.1, c.control_deltas.ensures) in
    let after = after_control delta_limit s.control_deltas (points_of_all s gs) (glyph_deltas s gs)
    (record { points = point_work_limit; deltas = c.in-Some.deltas }) small rest in
    IfOk-weaker c.without_glyphs.result _ _ (λ left is. is ∙ after) c.without_glyphs.ensures

pub returns-in-None : goal.returns-in-None
returns-in-None c =
    let s = c.args.fitter.now in
    let gs = c.args.numbers.now in
    let past : delta_limit < s.control_deltas = omega (arith, c.in-None.ensures, c.control_deltas.ensures) in
    no_more_deltas all_counts (points_of_all s gs) (s.control_deltas + glyph_deltas s gs) (omega (arith, past))
