-- No part of the standard: the least box that holds black pixels.
use Rattle.std.specs.Prelude.{◌≡◌, refl, ℕ, ◌-◌, ◌^◌, ◌<◌, ◌≤◌, Bool, true, false, ◌&&◌, ◌==◌, nat_le, nat_lt, ℤ, pos, negsuc, ◌+ℤ◌, ◌-ℤ◌, ◌≤ℤ◌, unsigned_abs, List, Option, Some, None}
use Rattle.std.specs.Int.{int_max, int_min}
use Rattle.tt_bitmap.specs.Bitmaps.{number_at, pixel}
use Rattle.tt_bitmap.specs.Words.{in_word}
use Rattle.tt_bitmap.specs.declared.ink.LeastBox.{LeastBox}
use Rattle.tt_bitmap.specs.declared.ink.InkSides.{InkSides}
use Rattle.tt_bitmap.specs.declared.ink.NarrowInk.{NarrowInk}

-- a pixel lies in a box
pub record IsInBox (b : LeastBox) (c j : ℤ) : Type 0 where
  pub left : b.left ≤ℤ c
  pub right : c ≤ℤ b.right
  pub bottom : b.bottom ≤ℤ j
  pub top : j ≤ℤ b.top

-- a box holds all black pixels, and each of its sides has one
pub record IsLeastBox (black : ℤ → ℤ → Bool) (b : LeastBox) : Type 0 where
  pub within : (c j : ℤ) → black c j ≡ true → IsInBox b c j
  pub left : (j : ℤ) × (black b.left j ≡ true)
  pub right : (j : ℤ) × (black b.right j ≡ true)
  pub bottom : (c : ℤ) × (black c b.bottom ≡ true)
  pub top : (c : ℤ) × (black c b.top ≡ true)

-- the box of black pixels; None where nothing is black
abbrev pub IsInk : (ℤ → ℤ → Bool) → Option LeastBox → Type 0
IsInk black None = (c j : ℤ) → black c j ≡ false
IsInk black (Some b) = IsLeastBox black b

-- a box whose sides are near enough that no computed place wraps
pub record IsNear (b : LeastBox) : Type 0 where
  pub left : unsigned_abs b.left < 2 ^ 22
  pub bottom : unsigned_abs b.bottom < 2 ^ 22
  pub right : unsigned_abs b.right < 2 ^ 22
  pub top : unsigned_abs b.top < 2 ^ 22

-- the least box that holds two boxes
abbrev pub joined_boxes : LeastBox → LeastBox → LeastBox
joined_boxes a b = record {
  left = int_min a.left b.left;
  bottom = int_min a.bottom b.bottom;
  right = int_max a.right b.right;
  top = int_max a.top b.top;
}

-- where None is the empty box
abbrev pub joined : Option LeastBox → Option LeastBox → Option LeastBox
joined None b = b
joined (Some a) None = Some a
joined (Some a) (Some b) = Some (joined_boxes a b)

-- a box moved to the right and up
abbrev pub moved_box : ℤ → ℤ → LeastBox → LeastBox
moved_box right up b = record {
  left = b.left +ℤ right;
  bottom = b.bottom +ℤ up;
  right = b.right +ℤ right;
  top = b.top +ℤ up;
}

-- rows and columns that count from 0
pub record IsWithin (s : InkSides) (r m : ℕ) : Type 0 where
  pub first_row : s.first_row ≤ r
  pub last_row : r ≤ s.last_row
  pub first : s.first ≤ m
  pub last : m ≤ s.last

pub record AreLeast (black : ℕ → ℕ → Bool) (s : InkSides) : Type 0 where
  pub within : (r m : ℕ) → black r m ≡ true → IsWithin s r m
  pub first_row : (m : ℕ) × (black s.first_row m ≡ true)
  pub last_row : (m : ℕ) × (black s.last_row m ≡ true)
  pub first : (r : ℕ) × (black r s.first ≡ true)
  pub last : (r : ℕ) × (black r s.last ≡ true)

abbrev pub AreSides : (ℕ → ℕ → Bool) → Option InkSides → Type 0
AreSides black None = (r m : ℕ) → black r m ≡ false
AreSides black (Some s) = AreLeast black s

-- the box that has these sides, where column 0 is `left` and row 0 is line `top`
abbrev pub box_by : ℤ → ℤ → InkSides → LeastBox
box_by left top s = record {
  left = left +ℤ pos s.first;
  bottom = top -ℤ pos s.last_row;
  right = left +ℤ pos s.last;
  top = top -ℤ pos s.first_row;
}

-- column j of a word's 64
abbrev pub has_column : ℕ → ℕ → Bool
has_column word j = nat_lt j 64 && in_word word j

-- column m of row r is black, by a word that begins at column `begin` of row `row`
abbrev pub in_row : ℕ → ℕ → ℕ → ℕ → ℕ → Bool
in_row word row begin r m = (r == row) && (nat_le begin m && has_column word (m - begin))

-- one of the first `count` columns of row r of words is black
abbrev pub row_has : List ℕ → ℕ → ℕ → ℕ → ℕ → Bool
row_has words width count r m = nat_lt m count && pixel words (number_at width r m)

-- all black pixels are in rows above a row
abbrev pub AreAbove : ℕ → (ℕ → ℕ → Bool) → Type 0
AreAbove row black = (r m : ℕ) → black r m ≡ true → r < row

-- the columns of black pixels are those of one word, and each side has a black pixel where there is one
pub record IsNarrowInk (black : ℕ → ℕ → Bool) (n : NarrowInk) : Type 0 where
  pub within : (r m : ℕ) → black r m ≡ true → (n.first_row ≤ r) × ((r ≤ n.last_row) × (has_column n.columns m ≡ true))
  pub across : (m : ℕ) → has_column n.columns m ≡ true → (r : ℕ) × (black r m ≡ true)
  pub first : 0 < n.columns → (m : ℕ) × (black n.first_row m ≡ true)
  pub last : 0 < n.columns → (m : ℕ) × (black n.last_row m ≡ true)

-- worked values
box : ℤ → ℤ → ℤ → ℤ → LeastBox
box left bottom right top = record { left = left; bottom = bottom; right = right; top = top }

left_of_the_pen_and_right_of_it : joined (Some (box (negsuc 2) (pos 0) (negsuc 0) (pos 4))) (Some (box (pos 1) (negsuc 1) (pos 5) (pos 3)))
    ≡ Some (box (negsuc 2) (negsuc 1) (pos 5) (pos 4))
unfolding box
left_of_the_pen_and_right_of_it = refl

a_blank_adds_nothing : joined None (Some (box (pos 0) (pos 0) (pos 0) (pos 0))) ≡ Some (box (pos 0) (pos 0) (pos 0) (pos 0))
a_blank_adds_nothing = refl

moved_over_the_pen : moved_box (pos 3) (negsuc 0) (box (negsuc 2) (pos 0) (pos 1) (pos 4)) ≡ box (pos 0) (negsuc 0) (pos 4) (pos 3)
unfolding box
moved_over_the_pen = refl

above_the_base_line_and_below : box_by (negsuc 1) (pos 1) (record { first_row = 0; last_row = 3; first = 1; last = 2 })
    ≡ box (negsuc 0) (negsuc 1) (pos 0) (pos 1)
unfolding box
above_the_base_line_and_below = refl
