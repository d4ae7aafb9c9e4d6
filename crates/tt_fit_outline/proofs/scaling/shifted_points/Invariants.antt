use Rattle.std.proofs.Common.{◌≡◌, ◌≤◌, length, map, take, vec_len, vec_capacity, All}
use Rattle.tt_fit_outline.specs.Outline.{IsPoint}
use Rattle.tt_fit_outline.specs.Scaling.{scaled_by_scale}
use Rattle.tt_fit_outline.proofs.scaling.shifted_points.Given as goal

abbrev pub invariant-loop-point : goal.invariant-loop-point
invariant-loop-point l = record {
  so_far : l.scaled.items ≡ map (scaled_by_scale l.shift.scale) (take l.point-index l.points);
  coordinates : All IsPoint l.scaled.items;
  many : vec_len l.scaled ≡ l.point-index;
  room : length l.points ≤ vec_capacity l.scaled;
}
