use Rattle.std.proofs.Common.{◌≡◌, drop}
use Rattle.tt_axes.specs.Instances.{last_value}
use Rattle.tt_axes.proofs.instance.last_value.Given as goal

-- the last of the values that are left, or the value so far
abbrev pub invariant-loop-given : goal.invariant-loop-given
invariant-loop-given l = last_value (drop l.given-index l.values) l.tag l.value ≡ last_value l.values l.tag l.first
