use Rattle.std.proofs.Common.{◌∙◌, refl, SFits, w32, subst, sym}
use Rattle.std.proofs.lemmas.Int.{to_z-of_z}
use Rattle.std.proofs.lemmas.List.{with_items_is}
use Rattle.tt_points_zones.specs.Zones.{AreContours}
use Rattle.tt_points_loops.proofs.flipping.flip_range.Goals as goal

pub returns-clause-exact : goal.returns-clause-exact
returns-clause-exact c =
    let low : SFits w32 c.args.low = c.ranges.low in
    let high : SFits w32 c.args.high = c.ranges.high in
    let written = with_items_is c.args.zones.now.glyph c.put_all_on.new.points
    (c.put_all_on.ensures.count ∙ c.deref_mut.ensures.len) in
    let last = simp to_z-of_z at c.in_ok-point.ensures.exact in
    let first = simp to_z-of_z at c.in_ok-point-2.ensures.exact in
    let made = simp to_z-of_z at (rw c.deref_mut.ensures.value at c.put_all_on.ensures.exact) in
    rw (written, last, first, made) refl

pub invariant_of-zones-clause-glyph_points : goal.invariant_of-zones-clause-glyph_points
invariant_of-zones-clause-glyph_points c =
    let written = with_items_is c.args.zones.now.glyph c.put_all_on.new.points
    (c.put_all_on.ensures.count ∙ c.deref_mut.ensures.len) in
    rw written c.put_all_on.ensures.valid

-- the contours fit a glyph with as many points
pub invariant_of-zones-clause-ranges : goal.invariant_of-zones-clause-ranges
invariant_of-zones-clause-ranges c =
    let same = rw c.deref_mut.ensures.value at c.put_all_on.ensures.count in
    let written = with_items_is c.args.zones.now.glyph c.put_all_on.new.points
    (c.put_all_on.ensures.count ∙ c.deref_mut.ensures.len) in
    rw written (subst (AreContours 0 c.args.zones.now.contours.items) (sym same) c.args.zones.now.ranges)
