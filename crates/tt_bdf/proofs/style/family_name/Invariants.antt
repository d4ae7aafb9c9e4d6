use Rattle.std.proofs.Common.{◌≡◌, ◌++◌, drop, map, string_bytes}
use Rattle.tt_bdf.specs.Style.{family_character}
use Rattle.tt_bdf.proofs.style.family_name.Given as goal

-- the name so far, and then its remaining characters
abbrev pub invariant-loop-c : goal.invariant-loop-c
invariant-loop-c l =
    string_bytes l.name ++ map family_character (drop l.c-index l.kept) ≡ map family_character l.kept
