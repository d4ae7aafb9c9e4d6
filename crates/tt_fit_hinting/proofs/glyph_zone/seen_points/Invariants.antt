use Rattle.std.proofs.Common.{◌≡◌, ◌++◌, map, drop, All}
use Rattle.tt_fit_hinting.specs.GlyphZone.{seen}
use Rattle.tt_fit_outline.specs.Outline.{IsPoint}
use Rattle.tt_fit_hinting.proofs.glyph_zone.seen_points.Given as goal

abbrev pub invariant-loop-point : goal.invariant-loop-point
invariant-loop-point l = record {
  so_far : l.points.items ++ map seen (drop l.point-index l.zone) ≡ map seen l.zone;
  valid : All IsPoint l.points.items;
}
