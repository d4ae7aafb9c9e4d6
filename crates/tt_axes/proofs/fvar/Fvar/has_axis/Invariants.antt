use Rattle.std.proofs.Common.{◌≡◌, ◌-◌}
use Rattle.std.specs.Prelude.{bytes_eq}
use Rattle.tt_core.specs.Search.{first_below, first_from}
use Rattle.tt_axes.specs.Axes.{axis_tag}
use Rattle.tt_axes.specs.Fvar.{axis_count}
use Rattle.tt_axes.proofs.fvar.Fvar.has_axis.Given as goal

-- the search over all axes is the search over those that are left
abbrev pub invariant-loop-i : goal.invariant-loop-i
invariant-loop-i l =
    first_from (λ i. bytes_eq (axis_tag l.self i) l.value.tag) l.i (l.i-end - l.i)
    ≡ first_below (axis_count l.self) (λ i. bytes_eq (axis_tag l.self i) l.value.tag)
