use Rattle.std.proofs.Common.{◌≡◌, ◌++◌, drop, flat_map, string_bytes}
use Rattle.tt_render_texts.specs.Reports.{unfitted_told}
use Rattle.tt_render_texts.proofs.texts_messages.Messages.push_unfitted.Given as goal

-- the text so far, and then the lines of the remaining glyphs, is the whole text
abbrev pub invariant-loop-entry : goal.invariant-loop-entry
invariant-loop-entry l =
    string_bytes l.text ++ flat_map (unfitted_told l.self.number) (drop l.entry-index l.unfitted)
    ≡ string_bytes l.initial.text ++ flat_map (unfitted_told l.self.number) l.unfitted
