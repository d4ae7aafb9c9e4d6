use Rattle.std.specs.Prelude.{option_map}
use Rattle.tt_fit_outline.specs.Views.{outline_of, units_view}
use Rattle.tt_fit_outline.specs.Outline.{phantom_of}
use Rattle.tt_fit_hinting.proofs.Zones.{zones-are}
use Rattle.tt_fit_hinting.proofs.parts.glyph_zones.Goals as goal

pub invariant_of-result : goal.invariant_of-result
invariant_of-result c =
    let units = option_map units_view c.args.glyph.now.units in
    let glyph = c.in_ok-glyph_zone in
    let twilight = rw c.deref.ensures.value at c.in_ok-copy.ensures.exact in
    let are = zones-are c.copy.new.room.items glyph.field-0.items c.in_ok-contours.field-0.items c.originals_by.result
    c.args.parts.now.scale units (outline_of c.args.glyph.now.outline.now) (phantom_of c.args.glyph.now.grid)
    (rw twilight c.args.parts.now.placed.twilight) glyph.ensures.exact glyph.ensures.valid
    (rw c.deref-2.ensures.value at c.in_ok-contours.ensures) c.originals_by.ensures c.args.parts.now.scaled
    c.args.glyph.now.outline.now.valid in
    record { twilight_points = are.twilight; glyph_points = are.glyph; ranges = are.contours; scale = are.scale }
