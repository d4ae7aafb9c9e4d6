use Rattle.std.proofs.Common.{◌≡◌, ◌*◌, map}
use Rattle.std.specs.List.{range_with_len}
use Rattle.tt_core.specs.Numbers.{unsigned_at}
use Rattle.tt_face.specs.Names.{told_character}
use Rattle.tt_face.proofs.names.told_text.Given as goal

-- the characters so far
abbrev pub invariant-loop-k : goal.invariant-loop-k
invariant-loop-k l =
    l.text.items ≡ map (λ k. told_character (unsigned_at l.string (2 * k) 2)) (range_with_len 0 l.k)
