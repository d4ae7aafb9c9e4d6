use Rattle.std.proofs.Common.{◌≡◌, ◌∙◌, ◌+◌, ◌-◌, ◌/◌, ◌<◌, ◌≤◌, Ok, Err, refl, sym, length, get_or, pos, arith, take_all}
use Rattle.tt_points_zones.specs.Views.{zones_view}
use Rattle.tt_points_loops.specs.Deltas.{except, pairs_of}
use Rattle.tt_points_loops.specs.Series.{passing_over}
use Rattle.tt_points_loops.specs.Turns.{went_on, broke_off, pairs_count}
use Rattle.tt_points_loops.proofs.deltas.deltap.Goals as goal

pub loop-i-init : goal.loop-i-init
loop-i-init c =
    let pairs = c.args.pairs.now in
    let few : length (pairs_of c.args.pairs.now) ≤ length c.args.pairs.now / 2 = omega (arith, pairs_count pairs) in
    record { same = rw (take_all (length pairs / 2) (pairs_of pairs) few) refl }

pub loop-i-preserved-in-Ok : goal.loop-i-preserved-in-Ok
loop-i-preserved-in-Ok c =
    let by = c.args.by in
    let pairs = c.args.pairs.now in
    let i = c.loop-i.i - 1 in
    let left : c.loop-i.i ≡ c.loop-i.i - 1 + 1 = omega arith in
    let there : c.loop-i.i - 1 < length (pairs_of c.args.pairs.now) = omega (arith, pairs_count c.args.pairs.now) in
    let step = passing_over by.tolerance (except by.tolerance by.range by.ppem c.args.state.now) in
    let came : step (get_or (pairs_of pairs) i (pos 0, pos 0)) (zones_view c.loop-i.zones)
    ≡ Ok (zones_view c.except.new.zones) =
    rw (← c.pair_at.ensures, c.in-Ok.ensures.exact) refl in
    record {
      same = went_on step (pairs_of pairs) c.loop-i.i i (pos 0, pos 0) _ _ _
          left there c.loop-i.invariant.same came;
    }

pub loop-i-preserved : goal.loop-i-preserved
loop-i-preserved c =
    let by = c.args.by in
    let pairs = c.args.pairs.now in
    let i = c.loop-i.i - 1 in
    let left : c.loop-i.i ≡ c.loop-i.i - 1 + 1 = omega arith in
    let there : c.loop-i.i - 1 < length (pairs_of c.args.pairs.now) = omega (arith, pairs_count c.args.pairs.now) in
    let step = passing_over by.tolerance (except by.tolerance by.range by.ppem c.args.state.now) in
    let over = sym c.passes_over.ensures ∙ c.if-passes_over.true in
    let came : step (get_or (pairs_of pairs) i (pos 0, pos 0)) (zones_view c.loop-i.zones)
    ≡ Ok (zones_view c.except.new.zones) =
    rw (← c.pair_at.ensures, c.in-Err.ensures.exact, over, c.in-Err.ensures.kept) refl in
    record {
      same = went_on step (pairs_of pairs) c.loop-i.i i (pos 0, pos 0) _ _ _
          left there c.loop-i.invariant.same came;
    }

pub returns-in-Err-2 : goal.returns-in-Err-2
returns-in-Err-2 c =
    let by = c.args.by in
    let pairs = c.args.pairs.now in
    let i = c.loop-i.i - 1 in
    let left : c.loop-i.i ≡ c.loop-i.i - 1 + 1 = omega arith in
    let there : c.loop-i.i - 1 < length (pairs_of c.args.pairs.now) = omega (arith, pairs_count c.args.pairs.now) in
    let step = passing_over by.tolerance (except by.tolerance by.range by.ppem c.args.state.now) in
    let stays = sym c.passes_over.ensures ∙ c.if-passes_over.false in
    let came : step (get_or (pairs_of pairs) i (pos 0, pos 0)) (zones_view c.loop-i.zones) ≡ Err c.in-Err.why =
    rw (← c.pair_at.ensures, c.in-Err.ensures.exact, stays) refl in
    let whole = broke_off step (pairs_of pairs) c.loop-i.i i (pos 0, pos 0) _ _ _
    left there c.loop-i.invariant.same came in
    record { exact = whole }

pub returns : goal.returns
returns c =
    let done : c.loop-i.i ≡ 0 = omega arith in
    record { exact = sym (rw done at c.loop-i.invariant.same) }
