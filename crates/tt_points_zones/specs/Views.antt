-- No part of the standard: the zones in memory, seen as lists.
use Rattle.tt_points_zones.specs.Zones.{IsZones, ZoneLists}
use Rattle.tt_points_zones.specs.declared.zones.Zones.{Zones}

abbrev pub zones_view : Zones → ZoneLists
zones_view z = record {
  twilight = z.twilight.items;
  glyph = z.glyph.items;
  contours = z.contours.items;
  originals = z.originals;
}

-- zones in memory keep the facts of all zones
pub are_zones : (z : Zones) → IsZones (zones_view z)
are_zones z = record { twilight = z.twilight_points; glyph = z.glyph_points; contours = z.ranges; scale = z.scale }
