-- Adobe, "Glyph Bitmap Distribution Format (BDF) Specification", version 2.1: BITMAP, as a reader of a file takes the
-- lines of its rows. A line has two hexadecimal digits a byte, and ends in a line feed.
use Rattle.std.specs.Prelude.{◌≡◌, refl, ℕ, ◌+◌, ◌*◌, ◌<◌, List, [], ◌∷◌, ◌++◌, All, codes, map, unwrap_or}
use Rattle.std.specs.List.{range_with_len}
use Rattle.tt_bdf.specs.Bitmap.{row_at, rows_text}
use Rattle.tt_core.specs.Cutting.{pieces}
use Rattle.tt_bdf.specs.Ranges.{hex_value}

-- the bytes of a line
abbrev pub digit_value : ℕ → ℕ
digit_value c = unwrap_or (hex_value c) 0

abbrev pub bytes_of_line : List ℕ → List ℕ
bytes_of_line [] = []
bytes_of_line (a ∷ []) = []
bytes_of_line (a ∷ b ∷ ds) = (16 * digit_value a + digit_value b) ∷ bytes_of_line ds

-- the bytes of each line, and of what is behind the last line feed
abbrev pub rows_in : List ℕ → List (List ℕ)
rows_in text = map bytes_of_line (pieces 10 text)

-- the lines of a bitmap's rows are read as its rows
abbrev pub RowsReadBack : Type 0
RowsReadBack = (bitmap : List ℕ) (stride height : ℕ) → All (λ b. b < 256) bitmap
    → rows_in (rows_text bitmap stride height) ≡ map (row_at bitmap stride) (range_with_len 0 height) ++ [] ∷ []

-- worked values
two_lines : rows_in (codes "C0FF\n0a9F\n") ≡ (0xC0 ∷ 0xFF ∷ []) ∷ (0x0A ∷ 0x9F ∷ []) ∷ [] ∷ []
two_lines = refl
