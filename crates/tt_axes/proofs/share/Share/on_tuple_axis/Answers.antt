use Rattle.std.proofs.Common.{◌≡◌, false, pos, rules}
use Rattle.std.specs.Ordering.{int_eq}
use Rattle.std.proofs.lemmas.Int.{to_z-of_z}
use Rattle.tt_axes.proofs.Signed.{unequal-words}
use Rattle.tt_axes.specs.Shares.{share_of_tuple_axis}
use Rattle.tt_axes.proofs.share.Share.on_tuple_axis.Goals as goal

pub returns-in-Some-clause-exact : goal.returns-in-Some-clause-exact
unfolding share_of_tuple_axis
returns-in-Some-clause-exact c =
    let fc = c.ranges.coordinate in
    let fp = c.ranges.peak in
    let peak : int_eq c.args.peak (pos 0) ≡ false = search rules in
    let some : int_eq c.args.coordinate (pos 0) ≡ false = search rules in
    let other = unequal-words c.args.coordinate c.args.peak c.if-coordinate-peak.false in
    rw (peak, some, other, c.in-Some.is) (simp to_z-of_z at c.share_between.ensures.exact)

pub returns-in-None-clause-exact : goal.returns-in-None-clause-exact
unfolding share_of_tuple_axis
returns-in-None-clause-exact c =
    let fc = c.ranges.coordinate in
    let fp = c.ranges.peak in
    let peak : int_eq c.args.peak (pos 0) ≡ false = search rules in
    let some : int_eq c.args.coordinate (pos 0) ≡ false = search rules in
    let other = unequal-words c.args.coordinate c.args.peak c.if-coordinate-peak.false in
    rw (peak, some, other, c.in-None.is) (simp to_z-of_z at c.share_to_peak.ensures.exact)
