-- The lines of a window, blackened from the highest down.
use Rattle.std.proofs.Common.{◌≡◌, refl, sym, ◌∙◌, ap, ap₂, ℕ, zero, suc, ◌+◌, ◌^◌, ◌<◌, Bool, true, false, ◌&&◌, ◌||◌, List, [], ◌∷◌, length, take, get_or, inl, inr, arith}
use Rattle.std.specs.Prelude.{ℤ, pos, ◌+ℤ◌, ◌-ℤ◌, ◌<ℤ◌, int_le}
use Rattle.std.specs.Ordering.{int_eq}
use Rattle.std.proofs.lemmas.Bool.{cases_Bool}
use Rattle.std.proofs.lemmas.Int.{ints}
use Rattle.tt_bitmap.specs.Bitmaps as bitmaps
use Rattle.tt_bitmap.specs.Bitmaps.{BoxBitmap, has_box, is_line}
use Rattle.tt_scan_dropouts.proofs.Inked.{all_painted, is_painted, none_painted, one_row_more}
use Rattle.tt_scan_dropouts.proofs.Places.{one_more_pixel}
use Rattle.tt_scan_dropouts.specs.Passes.{has_pixel}
use Rattle.tt_scan_dropouts.specs.declared.pixel.Pixel.{Pixel}
use Rattle.tt_scan_dropouts.specs.Windows.{WindowFits, frame_of, has, is_within, row_from_top}
use Rattle.tt_scan_dropouts.specs.declared.window.Window.{Window}
use Rattle.tt_scan_edges.specs.Marks.{covers}
use Rattle.tt_scan_edges.specs.Winding.{column_x, is_black, row_y}
use Rattle.tt_scan_edges.specs.declared.edge.Edge.{Edge}
use Rattle.tt_scan_edges.specs.declared.mark.Span.{Span}
use Rattle.tt_scan_gaps.specs.Crossings.{centre}
use Rattle.tt_scan_gaps.proofs.Tests.{both}

or_or : (a b c : Bool) → (a || (b || c)) ≡ ((a || b) || c)
or_or true b c = refl
or_or false b c = refl

or_false : (b : Bool) → b ≡ (b || false)
or_false true = refl
or_false false = refl

turned : (a b : ℤ) → int_eq a b ≡ int_eq b a
turned a b = grind (arith, ints)

-- the box of a window's bitmap
pub box_is : (w : Window) (left top c j : ℤ) → left ≡ w.left → top ≡ row_from_top w 0
    → has_box left top w.width w.height c j ≡ has w c j
box_is w left top c j first highest = rw (first, highest) (ap (λ b. is_within w.left w.width c && b) (lines_are w.bottom w.height j)) where
  lines_are : (bottom : ℤ) (h : ℕ) (j : ℤ) → is_line ((bottom +ℤ pos h) -ℤ pos (0 + 1)) h j ≡ is_within bottom h j
  lines_are bottom h j = grind (arith, ints)

-- a bitmap with other words has the same box
pub same_box : (b d : BoxBitmap) (words : List ℕ) (c j : ℤ) → b ≡ record d { words = words } → bitmaps.has b c j ≡ bitmaps.has d c j
same_box b d words c j same = ap (λ (b : BoxBitmap). bitmaps.has b c j) same

pub same_place : (new mid old : BoxBitmap) → new ≡ record mid { words = new.words } → mid ≡ record old { words = mid.words }
    → new ≡ record old { words = new.words }
same_place new mid old last first = last ∙ ap (λ (b : BoxBitmap). record b { words = new.words }) first

-- pixels so far, and more

pub no_more : (old inside : Bool) → old ≡ (old || (inside && false))
no_more true inside = refl
no_more false true = refl
no_more false false = refl

pub some_more : (old inside some one : Bool) → ((old || (inside && some)) || (inside && one)) ≡ (old || (inside && (some || one)))
some_more true inside some one = refl
some_more false true some one = refl
some_more false false some one = refl

pub twice : (a b : Bool) → (a && (a && b)) ≡ (a && b)
twice true b = refl
twice false b = refl

-- the pixels of a list so far, and one more
pub one_pixel_more : (ps : List Pixel) (i : ℕ) (p : Pixel) (old inside : Bool) (c j : ℤ) → i < length ps
    → ((old || (inside && has_pixel (take i ps) c j))
    || (inside && (int_eq c (get_or ps i p).column && int_eq j (get_or ps i p).row)))
    ≡ (old || (inside && has_pixel (take (i + 1) ps) c j))
one_pixel_more ps i p old inside c j below =
    let q = get_or ps i p in
    some_more old inside (has_pixel (take i ps) c j) (int_eq c q.column && int_eq j q.row)
    ∙ ap (λ b. old || (inside && b)) (ap₂ (λ a b. has_pixel (take i ps) c j || (a && b)) (turned c q.column) (turned j q.row)
    ∙ sym (one_more_pixel ps i p c j below))

-- the spans of a line so far, and one more

covers_more : (ss : List Span) (i : ℕ) (d : Span) (c : ℤ) → i < length ss → covers (take (i + 1) ss) c
    ≡ (covers (take i ss) c || (int_le (get_or ss i d).first c && int_le c (get_or ss i d).last))
covers_more [] i d c below = absurd (omega arith)
covers_more (s ∷ ss) zero d c below = sym (or_false _)
covers_more (s ∷ ss) (suc i) d c below =
    let next : suc i + 1 ≡ suc (i + 1) = omega arith in
    rw (next, covers_more ss i d c (omega arith))
    (or_or (int_le s.first c && int_le c s.last) (covers (take i ss) c) (int_le (get_or ss i d).first c && int_le c (get_or ss i d).last))

on_line : (here some one : Bool) → ((here && some) || (here && one)) ≡ (here && (some || one))
on_line true some one = refl
on_line false some one = refl

pub no_span : (old inside here : Bool) → old ≡ (old || (inside && (here && false)))
no_span true inside here = refl
no_span false true true = refl
no_span false true false = refl
no_span false false here = refl

pub one_span_more : (ss : List Span) (i : ℕ) (d : Span) (old inside here : Bool) (c : ℤ) → i < length ss
    → ((old || (inside && (here && covers (take i ss) c)))
    || (inside && (here && (int_le (get_or ss i d).first c && int_le c (get_or ss i d).last))))
    ≡ (old || (inside && (here && covers (take (i + 1) ss) c)))
one_span_more ss i d old inside here c below =
    let one = int_le (get_or ss i d).first c && int_le c (get_or ss i d).last in
    some_more old inside (here && covers (take i ss) c) (here && one)
    ∙ ap (λ b. old || (inside && b)) (on_line here (covers (take i ss) c) one
    ∙ ap (λ b. here && b) (sym (covers_more ss i d c below)))

-- the lines of a window so far, and one more

row_place : (w : Window) (r : ℕ) → row_y (frame_of w) (pos r) ≡ centre (row_from_top w r)
row_place w r = omega (arith, ints)

column_place : (c : ℤ) → column_x 0 c ≡ centre c
column_place c = omega (arith, ints)

near : (left : ℤ) (width : ℕ) (c : ℤ) → is_within left width c ≡ true → left <ℤ pos (2 ^ 19) → width < 2 ^ 20 → c <ℤ pos (2 ^ 63)
near left width c is low few = grind (arith, ints, is, low, few)

same_line : (line j : ℤ) → int_eq line j ≡ true → line ≡ j
same_line line j is = grind (arith, ints, is)

-- the black columns of a line are those of its spans
line_cut : (w : Window) (es : List Edge) (ss : List Span) (r : ℕ) (line c j : ℤ) → line ≡ row_from_top w r → c <ℤ pos (2 ^ 63)
    → ((c : ℤ) → c <ℤ pos (2 ^ 63) → covers ss c ≡ is_black es (column_x 0 c) (row_y (frame_of w) (pos r)))
    → (int_eq j line && covers ss c) ≡ (int_eq (row_from_top w r) j && is_black es (centre c) (centre j))
line_cut w es ss r line c j at small black =
    let here : int_eq j line ≡ int_eq (row_from_top w r) j = rw at (turned j (row_from_top w r)) in
    let all = black c small ∙ ap₂ (is_black es) (column_place c) (row_place w r) in
    elim (cases_Bool (int_eq (row_from_top w r) j)) [
      | inl is ↦
          let own : row_from_top w r ≡ j = same_line (row_from_top w r) j is in
          rw (here, is) (all ∙ ap (λ line. is_black es (centre c) (centre line)) own)
      | inr not ↦ rw (here, not) refl
    ]

pub one_line_more : (w : Window) (es : List Edge) (ss : List Span) (r : ℕ) (line c j : ℤ) (old : Bool) → WindowFits w
    → line ≡ row_from_top w r
    → ((c : ℤ) → c <ℤ pos (2 ^ 63) → covers ss c ≡ is_black es (column_x 0 c) (row_y (frame_of w) (pos r)))
    → ((old || (has w c j && (is_painted w r j && is_black es (centre c) (centre j))))
    || (has w c j && (int_eq j line && covers ss c)))
    ≡ (old || (has w c j && (is_painted w (r + 1) j && is_black es (centre c) (centre j))))
one_line_more w es ss r line c j old fits at black = by_place (has w c j) refl where
  by_place : (inside : Bool) → has w c j ≡ inside
      → ((old || (has w c j && (is_painted w r j && is_black es (centre c) (centre j))))
      || (has w c j && (int_eq j line && covers ss c)))
      ≡ (old || (has w c j && (is_painted w (r + 1) j && is_black es (centre c) (centre j))))
  by_place true is =
      let parts = both (is_within w.left w.width c) (is_within w.bottom w.height j) is in
      let left = fits.left in
      let low : w.left <ℤ pos (2 ^ 19) = omega (arith, ints, left) in
      let small = near w.left w.width c parts.0 low fits.width in
      rw (is, line_cut w es ss r line c j at small black)
      (sym (or_or old (is_painted w r j && is_black es (centre c) (centre j)) (int_eq (row_from_top w r) j && is_black es (centre c) (centre j)))
      ∙ ap (λ b. old || b) (one_row_more w r j (is_black es (centre c) (centre j))))
  by_place false is = rw is (sym (or_false (old || false)))

pub no_line : (w : Window) (c j : ℤ) (old black : Bool) → old ≡ (old || (has w c j && (is_painted w 0 j && black)))
no_line w c j old black = by_place (has w c j) refl where
  by_place : (inside : Bool) → has w c j ≡ inside → old ≡ (old || (has w c j && (is_painted w 0 j && black)))
  by_place true is = rw (is, none_painted w c j is) (or_false old)
  by_place false is = rw is (or_false old)

pub all_lines : (w : Window) (c j : ℤ) (r : ℕ) (old black : Bool) → r ≡ w.height
    → (old || (has w c j && (is_painted w r j && black))) ≡ (old || (has w c j && black))
all_lines w c j r old black end = by_place (has w c j) refl where
  by_place : (inside : Bool) → has w c j ≡ inside
      → (old || (has w c j && (is_painted w r j && black))) ≡ (old || (has w c j && black))
  by_place true is = rw (is, all_painted w r c j (omega (arith, end)) is) refl
  by_place false is = rw is refl
