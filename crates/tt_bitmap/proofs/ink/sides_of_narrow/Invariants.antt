use Rattle.std.proofs.Common.{◌&&◌, nat_lt}
use Rattle.tt_bitmap.specs.Inks.{IsNarrowInk, row_has}
use Rattle.tt_bitmap.proofs.ink.sides_of_narrow.Given as goal

-- the black pixels of the rows so far
abbrev pub invariant-loop-r : goal.invariant-loop-r
invariant-loop-r l = IsNarrowInk (λ r m. nat_lt r l.r && row_has l.words l.columns l.columns r m) l.ink
