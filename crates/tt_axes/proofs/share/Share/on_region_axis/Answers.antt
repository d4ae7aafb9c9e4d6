use Rattle.std.proofs.Common.{◌≡◌, true, sym, ◌∙◌}
use Rattle.std.proofs.lemmas.Int.{to_z-of_z}
use Rattle.tt_axes.proofs.Signed.{unequal-words}
use Rattle.tt_axes.specs.Shares.{has_effect, share_of_region_axis}
use Rattle.tt_axes.proofs.share.Share.on_region_axis.Goals as goal

pub returns-clause-exact : goal.returns-clause-exact
unfolding share_of_region_axis
returns-clause-exact c =
    let fc = c.ranges.coordinate in
    let fp = c.ranges.peak in
    let effect : has_effect c.args.peak c.args.ends ≡ true = sym (simp to_z-of_z at c.has_effect.ensures) ∙ c.if-not-has_effect.false in
    let other = unequal-words c.args.coordinate c.args.peak c.if-coordinate-peak.false in
    rw (effect, other) (simp to_z-of_z at c.share_between.ensures.exact)
