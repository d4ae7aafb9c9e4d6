use Rattle.std.proofs.Common.{◌≡◌, ◌++◌, map, drop, All}
use Rattle.tt_fit_hinting.specs.GlyphZone.{outline_point}
use Rattle.tt_exec.specs.zones.Zones.{IsPoint}
use Rattle.tt_fit_hinting.proofs.glyph_zone.outline_points.Given as goal

abbrev pub invariant-loop-point : goal.invariant-loop-point
invariant-loop-point l = record {
  so_far : l.zone.items ++ map outline_point (drop l.point-index l.points) ≡ map outline_point l.points;
  valid : All IsPoint l.zone.items;
}
