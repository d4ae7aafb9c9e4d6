use Rattle.std.proofs.Common.{◌<◌, ◌≤◌, ℕ, ℤ, length, SFits, w32, add-one, sym, rules, refl, arith}
use Rattle.std.proofs.lemmas.Int.{to_z-of_z}
use Rattle.std.proofs.lemmas.List.FromFn.{length-map-range_with_len, map-range_with_len_more}
use Rattle.tt_axes.specs.Avar.{avar_axes, list_place, mapped}
use Rattle.tt_axes.specs.Coordinates.{coordinate_at}
use Rattle.tt_axes.proofs.Lists.{later}
use Rattle.tt_axes.proofs.avar.Avar.mapped.Goals as goal

pub mapped_at-requires-clause-fits : goal.mapped_at-requires-clause-fits
mapped_at-requires-clause-fits c =
    let a = c.args.self.now in
    let fits : list_place a (avar_axes a) ≤ length a = rw c.self.view_is at c.self.invariant.0 in
    let below : c.loop-i.i < avar_axes a = omega (arith, c.loop-i-test.true, c.count-i-end.ensures.exact, c.requires) in
    rw c.loop-i.invariant.0 (omega (arith, later a c.loop-i.i (avar_axes a) below, fits))

pub push-requires-clause-room : goal.push-requires-clause-room
push-requires-clause-room c =
    let f : ℕ → ℤ = λ i. mapped c.args.self.now (list_place c.args.self.now i) (coordinate_at c.args.coordinates.now i) in
    rw (c.loop-i.invariant.1, length-map-range_with_len f 0 c.loop-i.i) (omega (arith, c.loop-i-test.true, c.count-i-end.ensures.bound))

pub list_end-at-requires-clause-room : goal.list_end-at-requires-clause-room
list_end-at-requires-clause-room c =
    let a = c.args.self.now in
    let fits : list_place a (avar_axes a) ≤ length a = rw c.self.view_is at c.self.invariant.0 in
    let below : c.loop-i.i < avar_axes a = omega (arith, c.loop-i-test.true, c.count-i-end.ensures.exact, c.requires) in
    rw (c.self.view_is, c.loop-i.invariant.0) (omega (arith, later a c.loop-i.i (avar_axes a) below, fits))

pub loop-i-preserved : goal.loop-i-preserved
loop-i-preserved c =
    let fits : SFits w32 c.mapped_at.result = search rules in
    let fits_at : SFits w32 c.at.result = search rules in
    let f : ℕ → ℤ = λ i. mapped c.args.self.now (list_place c.args.self.now i) (coordinate_at c.args.coordinates.now i) in
    let more = map-range_with_len_more f 0 c.loop-i.i c.loop-i.i (omega arith) in
    let pushed = simp to_z-of_z at c.push.ensures in
    let mapped_to = simp to_z-of_z at c.mapped_at.ensures.exact in (
      rw (add-one, c.list_end-at.ensures.exact, c.self.view_is, c.loop-i.invariant.0) refl,
      rw (pushed, c.loop-i.invariant.1, mapped_to, c.loop-i.invariant.0, c.at.ensures.exact) (sym more),
    )
