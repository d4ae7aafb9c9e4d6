-- No part of the standard: a machine's zones after they were taken out.
use Rattle.std.specs.Prelude.{[]}
use Rattle.tt_core.specs.declared.halves.Halves.TheVariants as halves
use Rattle.tt_points.specs.zones.Zones.{ZoneLists, in_pixels}

-- no point and no contour
abbrev pub no_zones : ZoneLists
no_zones = record { twilight = []; glyph = []; contours = []; originals = in_pixels halves.Up }
