use Rattle.std.proofs.Common.{◌≡◌, map}
use Rattle.std.specs.List.{range_with_len}
use Rattle.tt_fit_hinting.specs.Parts.{control_value}
use Rattle.tt_fit_outline.specs.Views.{size_view}
use Rattle.tt_fit_hinting.proofs.parts.control_values.Given as goal

abbrev pub invariant-loop-i : goal.invariant-loop-i
invariant-loop-i l = l.values.items ≡ map (control_value (size_view l.size) l.cvt) (range_with_len 0 l.i)
