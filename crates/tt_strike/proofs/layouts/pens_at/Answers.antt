use Rattle.std.proofs.Common.{ℕ, List, chars, length, map, refl, arith}
use Rattle.std.proofs.lemmas.Iterator.{YieldsList-from_slice, YieldsList-from_zip}
use Rattle.std.proofs.lemmas.Iterator.Consumers.{YieldsList-end, YieldsList-from_first, YieldsList-so_far, YieldsList-turn}
use Rattle.std.proofs.lemmas.List.{map_push}
use Rattle.std.proofs.lemmas.List.Sums.{sum_by_push}
use Rattle.tt_cmap.specs.declared.units.TextUnit.{TextUnit}
use Rattle.tt_cmap.specs.Maps.{units_by}
use Rattle.tt_strike.proofs.Pens.{columns, next_fits, one_pen_more, pens_zipped}
use Rattle.tt_strike.proofs.layouts.pens_at.Goals as goal

pub overflow_add-pen : goal.overflow_add-pen
overflow_add-pen c =
    let us = units_by c.args.cmap.now (chars c.args.text.now) in
    let gs = c.args.steps.now in
    let units = YieldsList-from_first (λ (u : TextUnit). u) (λ (left : List TextUnit). left) us cc in
    let steps = YieldsList-from_slice gs cc in
    let both = YieldsList-from_zip units steps in
    next_fits us gs _ (c.in-Some.unit, c.in-Some.step.now) (length c.loop-unit.yielded) c.loop-unit.pen c.args.first
    (YieldsList-so_far both c.loop-unit.yielded c.loop-unit.unit-iterator c.loop-unit.yielded_by)
    (YieldsList-turn both c.loop-unit.yielded c.loop-unit.unit-iterator c.loop-unit.yielded_by c.next.result
    c.next.new.self (c.in-Some.unit, c.in-Some.step) c.in-Some.is c.next.ensures.steps)
    c.loop-unit.invariant.pen c.requires.first c.requires.fits

pub loop-unit-preserved : goal.loop-unit-preserved
loop-unit-preserved c =
    let show : _ → TextUnit × (ℕ × ℕ) = λ p. (p.0, p.1.now) in
    let walked = map show c.loop-unit.yielded in
    let x : TextUnit × (ℕ × ℕ) = (c.in-Some.unit, c.in-Some.step.now) in
    let next = map_push show c.loop-unit.yielded (c.in-Some.unit, c.in-Some.step) in
    record {
      pens = rw (c.in_ok-push.ensures.items, next, one_pen_more walked x c.args.first, ← c.loop-unit.invariant.pen, ← c.loop-unit.invariant.pens) refl;
      pen = rw (next, sum_by_push columns walked x, c.loop-unit.invariant.pen) (omega arith);
    }

pub returns : goal.returns
returns c =
    let us = units_by c.args.cmap.now (chars c.args.text.now) in
    let gs = c.args.steps.now in
    let units = YieldsList-from_first (λ (u : TextUnit). u) (λ (left : List TextUnit). left) us cc in
    let steps = YieldsList-from_slice gs cc in
    let e = YieldsList-end (YieldsList-from_zip units steps) c.loop-unit.yielded
    c.loop-unit.unit-iterator c.loop-unit.yielded_by c.next.result c.next.new.self c.in-None.is c.next.ensures.steps in
    rw (pens_zipped us gs c.args.first, ← e.0) c.loop-unit.invariant.pens
