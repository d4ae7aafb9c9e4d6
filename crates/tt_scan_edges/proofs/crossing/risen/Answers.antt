use Rattle.std.proofs.Common.{◌&&◌, ◌-ℤ◌, ◌+ℤ◌, ℤ, pos, SFits, w64, refl, rules, arith}
use Rattle.std.proofs.lemmas.Int.{ints, to_z-of_z}
use Rattle.tt_scan_edges.specs.Winding.{is_zero}
use Rattle.tt_scan_edges.proofs.Crosses.{rising_cross, top_cross}
use Rattle.tt_scan_edges.proofs.Walks.{on_there, right_there}
use Rattle.tt_scan_edges.proofs.crossing.risen.Goals as goal

pub returns-then-at-from : goal.returns-then-at-from
returns-then-at-from c =
    let whole : SFits w64 c.args.stands.whole = search rules in
    let one : SFits w64 (c.args.stands.whole +ℤ pos 1) = omega (arith, ints, c.requires.near) in
    rising_cross c.args.up.edge c.args.at.frame.margin c.args.at.y _ c.args.stands.whole
    (λ (k : ℤ). is_zero c.args.stands.rest && is_zero (c.args.stands.whole -ℤ k))
    (omega (arith, ints, c.requires.low, c.requires.high)) (omega (arith, ints, c.requires.low, c.requires.high))
    (λ k. on_there c.args.up.edge c.args.at.frame.margin c.args.at.y k c.args.stands c.requires.stands)
    (λ k. right_there c.args.up.edge c.args.at.frame.margin c.args.at.y k c.args.stands c.requires.stands)
    c.touched-touch.ensures.exact c.touched-touch.ensures.order refl (simp to_z-of_z refl)

pub returns : goal.returns
returns c =
    top_cross c.args.up.edge c.args.at.frame.margin c.args.at.y _ (λ (k : ℤ). is_zero c.args.stands.rest && is_zero (c.args.stands.whole -ℤ k)) c.args.up.rises
    (omega (arith, ints, c.requires.low, c.requires.high))
    (λ k. on_there c.args.up.edge c.args.at.frame.margin c.args.at.y k c.args.stands c.requires.stands)
    c.touched-touch.ensures.exact c.touched-touch.ensures.order refl refl
