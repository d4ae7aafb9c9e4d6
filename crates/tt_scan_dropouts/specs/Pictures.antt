-- No part of the standard: the dropouts of a picture, each a row from the top and a column from the left.
use Rattle.std.specs.Prelude.{◌≡◌, refl, ℕ, ◌<◌, Bool, true, false, ◌&&◌, ◌||◌, ◌==◌, ℤ, pos, ◌+ℤ◌, ◌-ℤ◌, List, [], ◌∷◌, All}
use Rattle.std.specs.List.{list_any}
use Rattle.std.specs.List.Sorted.{IsNonDecreasingBy}
use Rattle.tt_scan_edges.specs.declared.edge.Edge.{Edge}
use Rattle.tt_scan_edges.specs.declared.edge.Frame.{Frame}
use Rattle.tt_scan_dropouts.specs.Dropouts.{is_dropout}
use Rattle.tt_scan_dropouts.specs.declared.boxed.BoxedRules.{BoxedRules}
use Rattle.tt_scan_dropouts.specs.declared.picture.Dropout.{Dropout}

-- column c of a picture, counted rightwards from a pen, and row r, counted upwards from the base line
abbrev pub column_at : Frame → ℕ → ℕ → ℤ
column_at f pen c = (pos c -ℤ pos f.margin) -ℤ pos pen

abbrev pub line_at : Frame → ℕ → ℤ
line_at f r = ((f.rise +ℤ pos f.margin) -ℤ pos 1) -ℤ pos r

-- contours made for pen 0 have a dropout at column c of row r, from some pen
abbrev pub is_dropout_from : Frame → BoxedRules → List (List Edge) → List ℕ → ℕ → ℕ → Bool
is_dropout_from f rules contours [] c r = false
is_dropout_from f rules contours (pen ∷ pens) c r =
    is_dropout rules contours (column_at f pen c) (line_at f r) || is_dropout_from f rules contours pens c r

-- a dropout is at column c of row r; some dropout of a list is
abbrev pub is_at : ℕ → ℕ → Dropout → Bool
is_at c r d = d.column == c && d.row == r

abbrev pub is_among : List Dropout → ℕ → ℕ → Bool
is_among ds c r = list_any (is_at c r) ds

-- dropouts lie in a picture of `w` columns
abbrev pub AreInColumns : ℕ → List Dropout → Type 0
AreInColumns w ds = All (λ d. d.column < w) ds

-- dropouts of a picture, in order of their rows
pub record AreDropouts (w : ℕ) (ds : List Dropout) : Type 0 where
  pub order : IsNonDecreasingBy (λ d. d.row) ds
  pub columns : AreInColumns w ds

-- worked values
two_of_a_row : List Dropout
two_of_a_row = record { row = 3; column = 7 } ∷ record { row = 3; column = 9 } ∷ []

one_of_them : is_among two_of_a_row 9 3 ≡ true
unfolding two_of_a_row
one_of_them = refl

not_between_them : is_among two_of_a_row 8 3 ≡ false
unfolding two_of_a_row
not_between_them = refl
