use Rattle.std.proofs.Common.{◌≡◌, ℕ, ◌*◌, ◌<◌, get_or}
use Rattle.tt_core.specs.Numbers.{unsigned_at}
use Rattle.tt_face.specs.Names.{told_character}
use Rattle.tt_face.proofs.names.is_told.Given as goal

-- the characters so far are alike
abbrev pub invariant-loop-k : goal.invariant-loop-k
invariant-loop-k l = (j : ℕ) → j < l.k → get_or l.text j 0 ≡ told_character (unsigned_at l.string (2 * j) 2)
