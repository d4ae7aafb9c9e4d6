use Rattle.std.proofs.Common.{◌&&◌, nat_lt}
use Rattle.tt_bitmap.specs.Inks.{AreSides, row_has}
use Rattle.tt_bitmap.proofs.ink.sides_of.Given as goal

-- the sides of the rows so far
abbrev pub invariant-loop-row : goal.invariant-loop-row
invariant-loop-row l = AreSides (λ r m. nat_lt r l.row && row_has l.words l.columns l.columns r m) l.sides
