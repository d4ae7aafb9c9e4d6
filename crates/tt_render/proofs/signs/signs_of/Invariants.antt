use Rattle.std.proofs.Common.{◌≡◌, map}
use Rattle.tt_render.specs.Labels.{signs_of}
use Rattle.tt_render.proofs.signs.signs_of.Given as goal

-- the signs of the lines so far
abbrev pub invariant-loop-line : goal.invariant-loop-line
invariant-loop-line l = l.signs ≡ signs_of (map (λ x. x.now) l.yielded)
