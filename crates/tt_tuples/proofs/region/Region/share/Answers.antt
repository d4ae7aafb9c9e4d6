use Rattle.std.proofs.Common.{◌≡◌, ◌∙◌, ◌+◌, SFits, w32, sym, length, arith, rules}
use Rattle.std.proofs.lemmas.Int.{to_z-of_z}
use Rattle.tt_tuples.specs.Regions.{share_after}
use Rattle.tt_tuples.specs.Views.{region_of}
use Rattle.tt_tuples.proofs.Axes.{no_axis, one_more_axis, nothing-stays}
use Rattle.tt_tuples.proofs.region.Region.share.Goals as goal

pub loop-i-init : goal.loop-i-init
loop-i-init c = rw (no_axis c.args.coordinates.now (region_of c.args.self.now)) c.whole-share.ensures

pub loop-i-preserved : goal.loop-i-preserved
loop-i-preserved c =
    let coordinate : SFits w32 c.at.result = search rules in
    let peak : SFits w32 c.fixed_at.result = search rules in
    let share = simp to_z-of_z at c.on_tuple_axis-share.ensures.exact in
    let more = one_more_axis c.args.coordinates.now (region_of c.args.self.now) c.loop-i.i in
    rw (more, ← c.loop-i.invariant, ← c.at.ensures.exact, ← c.fixed_at.ensures, ← c.ends_on.ensures) share

pub returns-then-share-eq0 : goal.returns-then-share-eq0
returns-then-share-eq0 c =
    let coordinate : SFits w32 c.at.result = search rules in
    let peak : SFits w32 c.fixed_at.result = search rules in
    let share = simp to_z-of_z at c.on_tuple_axis-share.ensures.exact in
    let cs = c.args.coordinates.now in
    let r = region_of c.args.self.now in
    let i = c.loop-i.i in
    let more = one_more_axis cs r i in
    let none : share_after cs r (i + 1) ≡ 0 =
    rw (more, ← c.loop-i.invariant, ← c.at.ensures.exact, ← c.fixed_at.ensures, ← c.ends_on.ensures)
    (sym share ∙ c.if-share-eq0.true) in
    let stays = nothing-stays c.shares_fall.ensures.tuples cs r (i + 1) (length cs)
    (omega (arith, c.loop-i-test.true, c.count-i-end.ensures.exact)) none in
    c.if-share-eq0.true ∙ sym stays
