-- No part of the standard: the pixels that are black before a pass, as the pass sees them.
use Rattle.std.specs.Prelude.{◌≡◌, refl, ◌^◌, Bool, true, false, ℤ, pos, [], ◌∷◌, map}
use Rattle.tt_bitmap.specs.Bitmaps.{BoxBitmap, is_black}
use Rattle.tt_scan_dropouts.specs.declared.marks.Pass.{Pass}
use Rattle.tt_scan_dropouts.specs.Windows.{is_black_by}
use Rattle.tt_scan_gaps.specs.declared.seen.Over.{Over}
use Rattle.tt_scan_gaps.specs.declared.seen.Over.TheVariants as over

-- pixel p of line j is black before a pass
abbrev pub is_black_to : Pass → ℤ → ℤ → Bool
is_black_to pass p j = is_black_by pass.over pass.ink.now p j

-- pixel p of line j is black in the bitmap of a box; in a pass over columns, column and row are exchanged
abbrev pub is_black_on : Over → BoxBitmap → ℤ → ℤ → Bool
is_black_on over.Rows b p j = is_black b p j
is_black_on over.Columns b p j = is_black b j p

-- worked values: two columns and one line, where column 1 is black
one_pixel : BoxBitmap
one_pixel = record { left = pos 0; top = pos 0; width = 2; height = 1; words = 2 ^ 62 ∷ [] }

by_rows : map (λ p. is_black_on over.Rows one_pixel p (pos 0)) (pos 0 ∷ pos 1 ∷ []) ≡ false ∷ true ∷ []
unfolding one_pixel
by_rows = refl

by_columns : map (λ p. is_black_on over.Columns one_pixel p (pos 0)) (pos 0 ∷ pos 1 ∷ []) ≡ false ∷ false ∷ []
unfolding one_pixel
by_columns = refl

in_column_1 : is_black_on over.Columns one_pixel (pos 0) (pos 1) ≡ true
unfolding one_pixel
in_column_1 = refl
