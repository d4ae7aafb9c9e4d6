use Rattle.std.proofs.Common.{◌≡◌, ◌++◌, chars, flat_map}
use Rattle.tt_cmap.specs.Maps.{units_by}
use Rattle.tt_render_run.specs.MapLines.{map_line}
use Rattle.tt_render_run.proofs.mapping.lines.Given as goal

-- the lines of the units so far
abbrev pub invariant-loop-unit : goal.invariant-loop-unit
invariant-loop-unit l = record {
  split : l.yielded ++ l.unit-iterator ≡ units_by l.fn.face.cmap (chars l.fn.text);
  lines : l.lines.items ≡ flat_map (map_line l.fn.face) l.yielded;
  same : l.known ≡ l.fn.face.cmap;
}
