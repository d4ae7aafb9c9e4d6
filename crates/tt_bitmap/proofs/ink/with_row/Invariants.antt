use Rattle.std.proofs.Common.{ℕ, Bool, ◌*◌, ◌&&◌, ◌||◌, ◌==◌, min}
use Rattle.tt_bitmap.specs.Inks.{AreSides, row_has}
use Rattle.tt_bitmap.proofs.ink.with_row.Given as goal

-- the sides with the words of the row so far
abbrev pub invariant-loop-strip : goal.invariant-loop-strip
invariant-loop-strip l = (black : ℕ → ℕ → Bool) → AreSides black l.fn.sides
    → AreSides (λ r m. black r m || ((r == l.row) && row_has l.words l.columns (min l.columns (56 * l.strip)) r m)) l.sides
