use Rattle.std.proofs.Common.{◌≡◌, ◌++◌, flat_map, string_bytes, length}
use denote.Text.{Utf8}
use denote.Shadow.{shadow}
use Rattle.tt_program_decisions.specs.Unfound.{quoted_byte}
use Rattle.tt_program_decisions.proofs.unfound.push_quoted.Given as goal

-- the text so far, and then the rest in quotes, is the whole text
abbrev pub invariant-loop-front : goal.invariant-loop-front
invariant-loop-front l = shadow (Utf8 l.rest)
    × (string_bytes l.text ++ flat_map quoted_byte l.rest ≡ string_bytes l.initial.text ++ flat_map quoted_byte l.fn.word)

abbrev pub decreases-loop-front : goal.decreases-loop-front
decreases-loop-front l = length l.rest
