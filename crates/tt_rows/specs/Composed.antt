-- Composed letters: two characters beside each other that are the canonical composition of a character, which takes their
-- place where a font has it. The Unicode Standard, section 3.11, primary composites. Nothing is reordered (profile).
use Rattle.std.specs.Prelude.{ℕ, ◌==◌, if◌then◌else◌, List, [], ◌∷◌, Option, Some, None}
use Rattle.tt_cmap.specs.Maps.{CharacterMap, glyph_by}
use Rattle.unicode_normalization.specs.Compose.{primary_composite}

-- a character that the font has
abbrev pub if_drawn : CharacterMap → Option ℕ → Option ℕ
if_drawn m None = None
if_drawn m (Some c) = if glyph_by m c == 0 then None else Some c

-- the character that takes the place of two, if one does
unfoldable pub composite_in : CharacterMap → ℕ → ℕ → Option ℕ
composite_in m a b = if_drawn m (primary_composite a b)

-- the characters from a character on, by those after it
abbrev pub composed_after : CharacterMap → ℕ → List ℕ → List ℕ
composed_after m a [] = a ∷ []
composed_after m a (b ∷ cs) =
    elim (composite_in m a b) [
      | Some c ↦ composed_after m c cs
      | None ↦ a ∷ composed_after m b cs
    ]

-- the characters of a line, read from left to right
abbrev pub composed : CharacterMap → List ℕ → List ℕ
composed m [] = []
composed m (c ∷ cs) = composed_after m c cs
