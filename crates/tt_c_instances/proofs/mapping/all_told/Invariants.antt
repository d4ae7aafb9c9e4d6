use Rattle.std.proofs.Common.{◌≡◌, map}
use Rattle.tt_c_instances.specs.Maps.{glyph_with}
use Rattle.tt_c_instances.proofs.mapping.all_told.Given as goal

-- the units so far
abbrev pub invariant-loop-unit : goal.invariant-loop-unit
invariant-loop-unit l = l.told.items ≡ map glyph_with (map (λ p. (p.0, p.1.now)) l.yielded)
