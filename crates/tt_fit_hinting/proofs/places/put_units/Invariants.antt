use Rattle.std.proofs.Common.{◌≡◌, take, All}
use Rattle.tt_exec.specs.zones.Zones.{IsPoint}
use Rattle.tt_fit_outline.specs.Units.{in_units}
use Rattle.tt_fit_hinting.proofs.places.put_units.Given as goal

abbrev pub invariant-loop-i : goal.invariant-loop-i
invariant-loop-i l = record {
  so_far : l.zone.items ≡ in_units (take l.i l.places) l.fn.zone.items;
  valid : All IsPoint l.zone.items;
}
