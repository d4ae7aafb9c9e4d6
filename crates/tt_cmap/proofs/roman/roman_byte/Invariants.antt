use Rattle.std.proofs.Common.{◌≡◌, ◌-◌, ◌≤◌}
use Rattle.tt_core.specs.Search.{first_from}
use Rattle.tt_cmap.specs.Roman.{is_roman, high_byte}
use Rattle.tt_cmap.proofs.roman.roman_byte.Given as goal

-- the search over all bytes is the search over the remaining bytes
abbrev pub invariant-loop-i : goal.invariant-loop-i
invariant-loop-i l = (128 ≤ l.c) × (first_from (is_roman l.c) l.i (128 - l.i) ≡ high_byte l.c)
