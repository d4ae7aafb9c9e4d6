use Rattle.std.proofs.Common.{◌≡◌, []}
use Rattle.tt_bitmap_font.specs.Characters.{lacking_after}
use Rattle.tt_bitmap_font.proofs.lacking.text_lacking.Given as goal

-- those of the characters so far
abbrev pub invariant-loop-c : goal.invariant-loop-c
invariant-loop-c l = l.listed.items ≡ lacking_after l.cmap [] l.yielded
