use Rattle.std.proofs.Common.{◌≡◌, ◌<◌, suc, length, SFits, w32, of_z, to_z, refl, arith, rules}
use Rattle.std.proofs.lemmas.Int.{to_z-of_z}
use Rattle.tt_variation_store.specs.Regions.{share_after}
use Rattle.tt_variation_store.proofs.Shares.{nothing-holds}
use Rattle.tt_variation_store.proofs.regions.RegionList.share.Goals as goal

pub returns-then-share-eq0 : goal.returns-then-share-eq0
returns-then-share-eq0 c =
    let at = c.loop-axis in
    let cs = c.args.coordinates.now in
    let fits : SFits w32 c.at.result = search rules in
    let same : to_z w32 (of_z w32 c.at.result) ≡ c.at.result = simp to_z-of_z refl in
    let next : c.share_by-share.result.parts ≡ share_after c.args.self.now c.args.region cs (suc at.axis)
    = rw (c.share_by-share.ensures.exact, same, c.at.ensures.exact, at.invariant.so_far) refl in
    let within : at.axis < length cs = omega (arith, at.invariant.all, c.loop-axis-test.true) in
    nothing-holds c.shares_fall.ensures.regions c.args.self.now c.args.region cs at.axis c.share_by-share.result.parts within next
    c.if-share-eq0.true
