-- Laws of the definitions. No part of the standard: which cached glyphs fit a limit.
use Rattle.std.specs.Prelude.{◌≡◌, ℕ, ◌≤◌, List, length, take}
use Rattle.tt_strike_kept.specs.Glyph.{KeptGlyph}
use Rattle.tt_strike_kept.specs.Kept.{bytes_in, fitting}

-- the glyphs that fit are a front of the list
abbrev pub FittingIsPart : Type 0
FittingIsPart = (room : ℕ) (es : List (ℕ × KeptGlyph)) → (k : ℕ) × (fitting room es ≡ take k es)

-- they fit, and every front that fits is no longer
abbrev pub FittingIsLongest : Type 0
FittingIsLongest = (room : ℕ) (es : List (ℕ × KeptGlyph)) → (bytes_in (fitting room es) ≤ room)
    × ((k : ℕ) → bytes_in (take k es) ≤ room → length (take k es) ≤ length (fitting room es))
