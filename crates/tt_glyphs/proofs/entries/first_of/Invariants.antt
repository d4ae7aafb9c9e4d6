use Rattle.std.proofs.Common.{◌≡◌, ◌==◌, find, drop}
use Rattle.tt_glyphs.specs.declared.told.GlyphEntry.{GlyphEntry}
use Rattle.tt_glyphs.proofs.entries.first_of.Given as goal

-- the first entry of the number among the remaining ones is that among all
abbrev pub invariant-loop-entry : goal.invariant-loop-entry
invariant-loop-entry l =
    find (λ (e : GlyphEntry). e.glyph == l.glyph) (drop l.entry-index l.entries)
    ≡ find (λ (e : GlyphEntry). e.glyph == l.glyph) l.entries
