use Rattle.std.proofs.Common.{◌≡◌, map, SFits, w32, rules, refl}
use Rattle.std.specs.Prelude.{option_map}
use Rattle.std.proofs.lemmas.Int.{to_z-of_z}
use Rattle.tt_fit_hinting.specs.GlyphZone.{outline_point}
use Rattle.tt_fit_outline.specs.Units.{in_units, places_of}
use Rattle.tt_fit_outline.specs.Views.{units_view}
use Rattle.tt_fit_hinting.proofs.Zones.{four_pushed, one_more}
use Rattle.tt_fit_hinting.proofs.glyph_zone.glyph_zone.Goals as goal

pub returns-clause-exact : goal.returns-clause-exact
returns-clause-exact c =
    let placed : c.put_units.new.zone.items
    ≡ in_units (places_of (option_map units_view c.args.glyph.now.units)) (map outline_point c.args.glyph.now.outline.now.points.items) = rw
    (c.put_units.ensures.exact, c.places_of.ensures, c.in_ok-zone.ensures.exact, c.deref.ensures.value) refl in
    let places = c.phantom_places-places.result in
    let left : SFits w32 places.left = search rules in
    let right : SFits w32 places.right = search rules in
    let ascent : SFits w32 places.ascent = search rules in
    let descent : SFits w32 places.descent = search rules in
    rw (← c.phantom_places-places.ensures, ← placed)
    (four_pushed c.put_units.new.zone.items c.push.new.self.items c.push-2.new.self.items c.push-3.new.self.items
    c.push-4.new.self.items _ _ _ _
    (simp to_z-of_z at (rw c.phantom_point.ensures.exact at c.in_ok-push.ensures.items))
    (simp to_z-of_z at (rw c.phantom_point-2.ensures.exact at c.in_ok-push-2.ensures.items))
    (simp to_z-of_z at (rw c.phantom_point-3.ensures.exact at c.in_ok-push-3.ensures.items))
    (simp to_z-of_z at (rw c.phantom_point-4.ensures.exact at c.in_ok-push-4.ensures.items)))

pub returns-clause-valid : goal.returns-clause-valid
returns-clause-valid c =
    let one = one_more _ _ _ c.in_ok-push.ensures.items c.put_units.ensures.valid c.phantom_point.ensures.valid in
    let two = one_more _ _ _ c.in_ok-push-2.ensures.items one c.phantom_point-2.ensures.valid in
    let three = one_more _ _ _ c.in_ok-push-3.ensures.items two c.phantom_point-3.ensures.valid in
    one_more _ _ _ c.in_ok-push-4.ensures.items three c.phantom_point-4.ensures.valid
