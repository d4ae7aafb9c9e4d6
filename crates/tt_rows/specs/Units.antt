-- The units of a line, each with its glyph and its steps.
use Rattle.std.specs.Prelude.{◌≡◌, refl, ℕ, List, [], ◌∷◌}
use Rattle.tt_cmap.specs.declared.units.TextUnit.{TextUnit}
use Rattle.tt_cmap.specs.Units.{plain_unit}
use Rattle.tt_rows.specs.declared.unit.RowUnit.{RowUnit}

-- a unit, its glyph with its step, and the same with kerning
abbrev pub row_unit : TextUnit → ℕ × ℕ → ℕ × ℕ → RowUnit
row_unit u plain kerned = record { character = u.character; glyph = plain.0; step = plain.1; kerned = kerned.1 }

-- those of a line
abbrev pub row_units : List TextUnit → List (ℕ × ℕ) → List (ℕ × ℕ) → List RowUnit
row_units [] plain kerned = []
row_units (u ∷ us) [] kerned = []
row_units (u ∷ us) (p ∷ ps) [] = []
row_units (u ∷ us) (p ∷ ps) (k ∷ ks) = row_unit u p k ∷ row_units us ps ks

-- worked values
two_letters : row_units (plain_unit 0x41 ∷ plain_unit 0x56 ∷ []) ((1, 4) ∷ (2, 5) ∷ []) ((1, 3) ∷ (2, 5) ∷ [])
    ≡ record { character = 0x41; glyph = 1; step = 4; kerned = 3 } ∷ record { character = 0x56; glyph = 2; step = 5; kerned = 5 } ∷ []
two_letters = refl
