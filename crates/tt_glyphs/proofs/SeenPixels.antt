-- The pixels of a glyph in the place of its ink, and their columns and rows among the rows of the place.
use Rattle.std.proofs.Common.{◌≡◌, ◌∙◌, refl, sym, ℕ, zero, suc, ◌<◌, Bool, true, false, ◌&&◌, ◌==◌, ℤ, pos, ◌+ℤ◌, ◌-ℤ◌, List, [], ◌∷◌, length, get_or, All, arith}
use Rattle.std.proofs.lemmas.Bool.Decides.{nat_tests}
use Rattle.std.proofs.lemmas.Int.{ints}
use Rattle.std.specs.Ordering.{int_eq}
use Rattle.tt_scan_dropouts.specs.Passes.{has_pixel}
use Rattle.tt_scan_dropouts.specs.Windows.{has}
use Rattle.tt_scan_dropouts.specs.declared.pixel.Pixel.{Pixel}
use Rattle.tt_scan_dropouts.specs.declared.window.Window.{Window}
use Rattle.tt_glyphs.specs.declared.place.InkPlace.{InkPlace}
use Rattle.tt_glyphs.specs.Drawn.{IsPixelIn, window_by}

-- by their distances from the left side and from the upper edge
pub same_column : (left : ℤ) (c k : ℕ) (column : ℤ) → column -ℤ left ≡ pos k → (k == c) ≡ int_eq column (left +ℤ pos c)
same_column left c k column is = grind (arith, ints, nat_tests, is)

pub same_row : (top : ℤ) (r k : ℕ) (row : ℤ) → (top -ℤ pos 1) -ℤ row ≡ pos k → (k == r) ≡ int_eq row ((top -ℤ pos 1) -ℤ pos r)
same_row top r k row is = grind (arith, ints, nat_tests, is)

-- a list has each of its pixels
is_listed : (ps : List Pixel) (i : ℕ) (d : Pixel) → i < length ps
    → has_pixel ps (get_or ps i d).column (get_or ps i d).row ≡ true
is_listed [] i d below = absurd (omega arith)
is_listed (p ∷ ps) zero d below = grind (arith, ints)
is_listed (p ∷ ps) (suc i) d below = let rest = is_listed ps i d (omega arith) in grind (arith, rest)

first_true : (a b : Bool) → (a && b) ≡ true → a ≡ true
first_true true b is = refl
first_true false b is = absurd cc

-- so those of a window are pixels of its place
in_window : (p : InkPlace) (x : Pixel) → has (window_by p) x.column x.row ≡ true → IsPixelIn p x
in_window p x is = record {
  left = grind (arith, ints, is);
  right = grind (arith, ints, is);
  bottom = grind (arith, ints, is);
  top = grind (arith, ints, is);
}

pub in_place : (p : InkPlace) (ps : List Pixel) (w : Window) (shown : ℤ → ℤ → Bool) → w ≡ window_by p
    → ((c j : ℤ) → has_pixel ps c j ≡ (has w c j && shown c j)) → All (IsPixelIn p) ps
in_place p ps w shown is told = λ i d below.
    let x = get_or ps i d in
    let both : (has w x.column x.row && shown x.column x.row) ≡ true = sym (told x.column x.row) ∙ is_listed ps i d below in
    let inside = first_true (has w x.column x.row) (shown x.column x.row) both in
    in_window p x (rw is at inside)
