-- Laws of a list's entries beside a line of the same glyphs, as statements; src/laws.rt proves them.
use Rattle.std.specs.Prelude.{◌≡◌, refl, ℕ, ◌+◌, ◌-◌, ◌*◌, ◌/◌, ◌%◌, Bool, true, false, ◌&&◌, ◌==◌, ℤ, pos, negsuc, ◌-ℤ◌, unsigned_abs, List, [], ◌∷◌, slice_index, None}
use Rattle.std.specs.Int.{bit_at}
use Rattle.tt_core.specs.Bits.{stride}
use Rattle.tt_fit.specs.declared.programs.Fit.{Fit}
use Rattle.tt_fit.specs.Fitting.{Fitter, unfitted_fault}
use Rattle.tt_fit.specs.outline.Steps.{pixels_of}
use Rattle.tt_picture.specs.Distinct.{is_among}
use Rattle.tt_scan_dropouts.specs.Pictures.{column_at, line_at}
use Rattle.tt_scan_edges.specs.declared.edge.Frame.{Frame}
use Rattle.tt_strike.specs.Work.{lays_after_glyphs, line_fitter}
use Rattle.tt_glyphs.specs.declared.place.InkPlace.{InkPlace}
use Rattle.tt_glyphs.specs.declared.told.MadeBitmap.{MadeBitmap}
use Rattle.tt_glyphs.specs.declared.told.Told.TheVariants as told
use Rattle.tt_glyphs.specs.Entries.{advance_by, all_rows, entry_of, known, number_told}
use Rattle.tt_glyphs.specs.GlyphLaws.{entry_shows, lies_in}

-- column c of row r is black in a bitmap of w columns, whose rows begin at a byte of all rows
abbrev pub has_bit : List ℕ → ℕ → ℕ → ℕ → ℕ → Bool
has_bit rows at w c r = bit_at (slice_index rows (at + (stride w * r + c / 8))) (7 - c % 8) == 1

-- a column and a line, counted from a pen, are black by the rows of a bitmap
abbrev pub rows_show : List ℕ → ℕ → InkPlace → ℤ → ℤ → Bool
rows_show rows at p column line =
    lies_in p column line
    && has_bit rows at p.width (unsigned_abs (column -ℤ p.left)) (unsigned_abs ((p.top -ℤ pos 1) -ℤ line))

-- a list and a line make a glyph alike: it is fitted in both, or unfitted in both by the same fault. The glyphs before
-- may have used the work of a list and not of a line
abbrev pub IsMadeAlike : Fitter → List ℕ → List ℕ → ℕ → Type 0
IsMadeAlike s gs line g = unfitted_fault (line_fitter s (known s gs) g) g ≡ unfitted_fault (line_fitter s line g) g

-- without a bound of work all glyphs are made alike
abbrev pub UnboundedAreAlike : Type 0
UnboundedAreAlike = (s : Fitter) (gs line : List ℕ) (g : ℕ) → s.work ≡ None → IsMadeAlike s gs line g

-- then the rows of the glyph's entry have its black pixels in the line
abbrev pub RowsAreDrawn : Type 0
RowsAreDrawn = (how : Fit) (s : Fitter) (gs line : List ℕ) (g : ℕ × ℕ) (m : MadeBitmap) (f : Frame) (c r : ℕ)
    → is_among g.0 gs ≡ true → number_told how s gs g.0 ≡ told.Made m → IsMadeAlike s gs line g.0
    → entry_shows (line_fitter s line g.0) f g c r
    ≡ rows_show (all_rows how s gs) (entry_of how s gs g.0).at m.place (column_at f g.1 c) (line_at f r)

-- and its entry has its advance in the line
abbrev pub AdvancesAreDrawn : Type 0
AdvancesAreDrawn = (how : Fit) (s : Fitter) (gs line : List ℕ) (g : ℕ) (m : MadeBitmap)
    → number_told how s gs g ≡ told.Made m → IsMadeAlike s gs line g → m.advance ≡ advance_by how (line_fitter s line g) g

-- where glyphs are fitted before a line is laid out, the advance in whole pixels is the one in 26.6 pixels, rounded
abbrev pub AdvancesAreRounded : Type 0
AdvancesAreRounded = (how : Fit) (s : Fitter) (gs : List ℕ) (g : ℕ) (m : MadeBitmap)
    → number_told how s gs g ≡ told.Made m → lays_after_glyphs how ≡ true → m.advance ≡ pixels_of m.advance_left

-- worked values: nine columns of two rows, behind a byte of another bitmap. The rows begin left of the pen, above the
-- base line
abbrev nine_by_two : InkPlace
nine_by_two = record { left = negsuc 0; top = pos 2; width = 9; height = 2 }

abbrev its_rows : List ℕ
its_rows = 0xFF ∷ 0x80 ∷ 0x80 ∷ 0x40 ∷ 0x00 ∷ []

its_first_column : rows_show its_rows 1 nine_by_two (negsuc 0) (pos 1) ≡ true
its_first_column = refl

its_last_column : rows_show its_rows 1 nine_by_two (pos 7) (pos 1) ≡ true
its_last_column = refl

its_second_row : rows_show its_rows 1 nine_by_two (pos 0) (pos 0) ≡ true
its_second_row = refl

white_in_its_second_row : rows_show its_rows 1 nine_by_two (negsuc 0) (pos 0) ≡ false
white_in_its_second_row = refl

right_of_it : rows_show its_rows 1 nine_by_two (pos 8) (pos 1) ≡ false
right_of_it = refl

left_of_it : rows_show its_rows 1 nine_by_two (negsuc 1) (pos 1) ≡ false
left_of_it = refl

below_it : rows_show its_rows 1 nine_by_two (pos 0) (negsuc 0) ≡ false
below_it = refl
