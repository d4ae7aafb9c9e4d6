use Rattle.std.proofs.Common.{◌≡◌, ◌+◌, drop}
use Rattle.tt_bitmap_font.specs.Characters.{below}
use Rattle.tt_bitmap_font.proofs.lacking.below.Given as goal

-- all characters so far are below the other one
abbrev pub invariant-loop-i : goal.invariant-loop-i
invariant-loop-i l = below l.c (drop l.i l.listed) + l.i ≡ below l.c l.listed
