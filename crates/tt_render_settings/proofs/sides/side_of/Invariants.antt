use Rattle.std.proofs.Common.{◌≡◌, drop, Some}
use Rattle.tt_render_settings.specs.Sides.{with_digits}
use Rattle.tt_render_settings.proofs.sides.side_of.Given as goal

-- the number so far, with the remaining digits, is the number of all
abbrev pub invariant-loop-i : goal.invariant-loop-i
invariant-loop-i l = with_digits (Some l.n) (drop l.i l.digits) ≡ with_digits (Some 0) l.digits
