use Rattle.std.proofs.Common.{◌≡◌, string_bytes, map, take}
use Rattle.tt_advice.specs.Shown.{shown}
use Rattle.tt_advice.proofs.shown.shown_words.Given as goal

-- the words so far
abbrev pub invariant-loop-word : goal.invariant-loop-word
invariant-loop-word l = map string_bytes l.all.items ≡ map (λ word. shown (string_bytes word)) (take l.word-index l.words)
