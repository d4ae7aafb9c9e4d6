use Rattle.std.proofs.Common.{◌≡◌, ◌<◌, ◌∙◌, sym, length, get_or, length-set, SFits, w16, arith, rules}
use Rattle.std.proofs.lemmas.Int.{to_z-of_z}
use Rattle.std.proofs.lemmas.List.Elements.{All-set}
use Rattle.tt_glyf.specs.InPlace.{HoldsFlag, flags_along, put_along}
use Rattle.tt_glyf.specs.Views.{coordinate_of}
use Rattle.tt_glyf.proofs.InPlace.{set-turn, set-done, others-hold, still-holds}
use Rattle.tt_glyf.proofs.flags.FlagList.read_along.Goals as goal

pub loop-i-preserved : goal.loop-i-preserved
loop-i-preserved c =
    let fits : SFits w16 c.in_ok-last.last.value = search rules in
    let g = c.args.glyph.now in
    let a = c.args.axis in
    let ps = c.loop-i.self.points.items in
    let i = c.loop-i.i in
    let below : i < length ps = omega (arith, c.loop-i-test.true, c.loop-i.invariant.many) in
    let p = c.index-point.result.now in
    let point : p ≡ get_or ps i p = c.index-point.ensures in
    let was = rw (c.held_flag.ensures, point, c.flags-flags.ensures) at c.in_ok-last.ensures.exact in
    let put : c.put.result ≡ put_along a (get_or ps i p) c.in_ok-last.last.value = simp to_z-of_z at (rw point at c.put.ensures) in
    let step = set-turn g (flags_along a) (put_along a) ps i p (coordinate_of c.loop-i.last)
    (coordinate_of c.in_ok-last.last) below was in
    record {
      same = rw put (step ∙ c.loop-i.invariant.same);
      many = length-set ps i c.put.result ∙ c.loop-i.invariant.many;
      held = others-hold ps i c.put.result below c.loop-i.invariant.held;
      kept = λ x. All-set HoldsFlag ps i c.put.result (rw put (still-holds a (get_or ps i p)
          c.in_ok-last.last.value x (c.loop-i.invariant.kept x i p below))) (c.loop-i.invariant.kept x);
      room = c.in_ok-last.ensures.room;
    }

pub returns-clause-exact : goal.returns-clause-exact
returns-clause-exact c =
    let end = set-done c.args.glyph.now (flags_along c.args.axis) (put_along c.args.axis) c.loop-i.self.points.items
    c.loop-i.i (coordinate_of c.loop-i.last) (omega (arith, c.loop-i.invariant.many, c.loop-i-test.false)) in
    sym c.loop-i.invariant.same ∙ end
