use Rattle.std.proofs.Common.{◌≡◌, ◌<◌, ◌^◌, ◌+ℤ◌, List, pos, inl, length, chars, SFits, w32, w64, arith, rules}
use Rattle.std.proofs.lemmas.Int.{ints, to_z-of_z}
use Rattle.std.proofs.lemmas.Iterator.Consumers.{YieldsList-from_first, count_from_yields_List}
use Rattle.tt_cmap.specs.declared.units.TextUnit.{TextUnit}
use Rattle.tt_cmap.specs.Maps.{has_pairs, units_by}
use Rattle.tt_cmap.proofs.UnitLaws.{units-are-few}
use Rattle.tt_strike.proofs.layouts.layout_by.Goals as goal

pub count-requires-clause-fits : goal.count-requires-clause-fits
count-requires-clause-fits c =
    let us = units_by c.args.cmap.now (chars c.args.text.now) in
    let few = units-are-few (has_pairs c.args.cmap.now) (chars c.args.text.now) in
    inl (rw c.units.ensures (omega (arith, few, c.requires)))

pub returns : goal.returns
returns c =
    let z = c.args.size in
    let us = units_by c.args.cmap.now (chars c.args.text.now) in
    let all : c.count.result ≡ length us = count_from_yields_List c.units.result c.count.result c.count.ensures.ran
    (YieldsList-from_first (λ (u : TextUnit). u) (λ (left : List TextUnit). left) us c.units.ensures) in
    let rise : SFits w32 z.rise = search rules in
    let up : c.from.result ≡ z.rise = simp to_z-of_z at c.from.ensures in
    let few : c.args.margin < 2 ^ 32 = search rules in
    let long : SFits w64 z.rise = omega (arith, ints, rise) in
    let margin : SFits w64 (pos c.args.margin) = omega (arith, ints, few) in
    let sum : SFits w64 (z.rise +ℤ pos c.args.margin) = omega (arith, ints, rise, few) in
    rw (up, c.from-2.ensures, all) (simp to_z-of_z)
