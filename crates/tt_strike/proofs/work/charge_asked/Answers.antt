use Rattle.std.proofs.Common.{◌≡◌, ◌∙◌, ℕ, ◌-◌, ◌≤◌, Some, None, ap, ap₂, refl, sym, arith}
use Rattle.tt_core.specs.Limits.{point_work_limit}
use Rattle.tt_fit.specs.DeltaCounting.{delta_limit}
use Rattle.tt_fit.specs.Fitting.{charged_fitter}
use Rattle.tt_strike.specs.Work.{all_counts, deltas_of_all, points_of_all, work_of_counts}
use Rattle.tt_strike.specs.declared.work.CountsLeft.{CountsLeft}
use Rattle.tt_strike.proofs.Counts.{IsRest, counts_pass, counts_stop, rest_of}
use Rattle.tt_strike.proofs.work.charge_asked.Goals as goal

pub overflow_sub-points : goal.overflow_sub-points
overflow_sub-points c =
    let s = c.args.fitter.now in
    let gs = c.args.numbers.now in
    let rest = rest_of all_counts c.in-Some.left (points_of_all s gs) (deltas_of_all s gs) (rw c.in-Some.is at c.in_ok-left.ensures) in
    let is = ap (λ (left : CountsLeft). left.points) rest.rest in
    omega (arith, is)

pub overflow_sub-deltas : goal.overflow_sub-deltas
overflow_sub-deltas c =
    let s = c.args.fitter.now in
    let gs = c.args.numbers.now in
    let rest = rest_of all_counts c.in-Some.left (points_of_all s gs) (deltas_of_all s gs) (rw c.in-Some.is at c.in_ok-left.ensures) in
    let is = ap (λ (left : CountsLeft). left.deltas) rest.rest in
    omega (arith, is)

pub returns-in_default-clause-exact : goal.returns-in_default-clause-exact
returns-in_default-clause-exact c =
    let s = c.args.fitter.now in
    let gs = c.args.numbers.now in
    let none = rw c.in_default.is at c.in_ok-left.ensures in
    rw (counts_stop c.args.fit (points_of_all s gs) (deltas_of_all s gs) c.requires.bounded none) refl

pub returns-clause-exact : goal.returns-clause-exact
returns-clause-exact c =
    let s = c.args.fitter.now in
    let gs = c.args.numbers.now in
    let some = rw c.in-Some.is at c.in_ok-left.ensures in
    rw (counts_pass c.args.fit (points_of_all s gs) (deltas_of_all s gs) c.in-Some.left c.requires.bounded some) refl

-- what was subtracted
counted : (most n left : ℕ) → left ≡ most - n → n ≤ most → most - left ≡ n
counted most n left is small = omega (arith, is, small)

pub returns-clause-charged : goal.returns-clause-charged
returns-clause-charged c =
    let s = c.args.fitter.now in
    let gs = c.args.numbers.now in
    let points = points_of_all s gs in
    let deltas = deltas_of_all s gs in
    let rest = rest_of all_counts c.in-Some.left points deltas (rw c.in-Some.is at c.in_ok-left.ensures) in
    let first = counted point_work_limit points c.in-Some.left.points (ap (λ (left : CountsLeft). left.points) rest.rest) rest.few_points in
    let second = counted delta_limit deltas c.in-Some.left.deltas (ap (λ (left : CountsLeft). left.deltas) rest.rest) rest.few_deltas in
    c.charge.ensures ∙ ap₂ (λ (n k : ℕ). charged_fitter s (work_of_counts n k)) first second
