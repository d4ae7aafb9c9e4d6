use Rattle.std.proofs.Common.{◌∙◌, subst, sym}
use Rattle.std.proofs.lemmas.List.{with_items_is}
use Rattle.tt_points_zones.specs.Zones.{AreContours}
use Rattle.tt_points_loops.proofs.shifting.shift_range.Goals as goal

pub invariant_of-zones-clause-twilight_points : goal.invariant_of-zones-clause-twilight_points
invariant_of-zones-clause-twilight_points c =
    let wrote = c.lead.ensures in
    rw (with_items_is c.args.zones.now.twilight c.lead.new.points (wrote.count ∙ c.deref_mut.ensures.len)) wrote.valid

pub invariant_of-zones-in-Glyph-clause-glyph_points : goal.invariant_of-zones-in-Glyph-clause-glyph_points
invariant_of-zones-in-Glyph-clause-glyph_points c =
    let wrote = c.lead-in-Glyph.ensures in
    let written = with_items_is c.args.zones.now.glyph c.lead-in-Glyph.new.points
    (wrote.count ∙ c.deref_mut-in-Glyph.ensures.len) in
    rw written wrote.valid

-- the contours fit a glyph with as many points
pub invariant_of-zones-in-Glyph-clause-ranges : goal.invariant_of-zones-in-Glyph-clause-ranges
invariant_of-zones-in-Glyph-clause-ranges c =
    let wrote = c.lead-in-Glyph.ensures in
    let same = rw c.deref_mut-in-Glyph.ensures.value at wrote.count in
    let written = with_items_is c.args.zones.now.glyph c.lead-in-Glyph.new.points
    (wrote.count ∙ c.deref_mut-in-Glyph.ensures.len) in
    rw written (subst (AreContours 0 c.args.zones.now.contours.items) (sym same) c.args.zones.now.ranges)
