use Rattle.std.proofs.Common.{◌≡◌, ◌++◌, drop, flat_map, string_bytes}
use Rattle.tt_render_texts.specs.Reports.{lacking_told}
use Rattle.tt_render_texts.proofs.texts_messages.Messages.push_lacking.Given as goal

-- the text so far, and then the lines of the remaining characters, is the whole text
abbrev pub invariant-loop-c : goal.invariant-loop-c
invariant-loop-c l =
    string_bytes l.text ++ flat_map (lacking_told l.self.number) (drop l.c-index l.lacking)
    ≡ string_bytes l.initial.text ++ flat_map (lacking_told l.self.number) l.lacking
