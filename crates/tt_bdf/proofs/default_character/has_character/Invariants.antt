use Rattle.std.proofs.Common.{◌≡◌, drop}
use Rattle.tt_bdf.specs.Advances.{has_character}
use Rattle.tt_bdf.proofs.default_character.has_character.Given as goal

-- the remaining characters decide
abbrev pub invariant-loop-c : goal.invariant-loop-c
invariant-loop-c l = has_character l.code (drop l.c-index l.characters) ≡ has_character l.code l.characters
