use Rattle.std.proofs.Common.{◌≡◌, drop, map}
use Rattle.tt_picture.specs.Ink.{all_joined}
use Rattle.tt_strike.specs.Measures.{ink_of}
use Rattle.tt_strike.proofs.measuring.ink_of.Given as goal

-- the box so far and those of the remaining characters make that of all
abbrev pub invariant-loop-character : goal.invariant-loop-character
invariant-loop-character l =
    all_joined l.all (map (λ c. c.ink) (drop l.character-index l.characters)) ≡ ink_of l.characters
