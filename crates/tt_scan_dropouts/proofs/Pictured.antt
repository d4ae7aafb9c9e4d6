-- The dropouts of a picture: the place of a glyph's pixel, and the dropouts of a list in a row.
use Rattle.std.proofs.Common.{◌≡◌, ◌≢◌, refl, sym, ◌∙◌, ap, ℕ, zero, suc, ◌+◌, ◌<◌, ◌≤◌, Bool, true, false, ◌&&◌, ◌||◌, ◌==◌, nat_lt, List, [], ◌∷◌, ◌++◌, length, take, drop, get_or, ℤ, pos, ◌+ℤ◌, ◌-ℤ◌, All, inl, inr, arith}
use Rattle.std.proofs.lemmas.Bool.{cases_Bool}
use Rattle.std.proofs.lemmas.Bool.Decides.{nat_tests}
use Rattle.std.proofs.lemmas.Int.{ints}
use Rattle.std.proofs.lemmas.List.{get_or_default, take-append-drop, take_more}
use Rattle.std.proofs.lemmas.List.Folds.{list_any-append, list_any_none}
use Rattle.std.specs.List.{AllWithin, list_any}
use Rattle.std.specs.List.Sorted.{IsNonDecreasingBy}
use Rattle.std.specs.Ordering.{int_eq}
use Rattle.std.specs.Prelude.{◌^◌, int_le, int_lt, unsigned_abs}
use Rattle.tt_core.specs.Limits.{width_limit}
use Rattle.tt_scan_edges.specs.declared.edge.Edge.{Edge}
use Rattle.tt_scan_edges.specs.declared.edge.Frame.{Frame}
use Rattle.tt_scan_dropouts.specs.Dropouts.{is_dropout}
use Rattle.tt_scan_dropouts.specs.Passes.{has_pixel}
use Rattle.tt_scan_dropouts.specs.Pictures.{column_at, is_among, is_at, is_dropout_from, line_at}
use Rattle.tt_scan_dropouts.specs.Windows.{WindowFits, has, widened}
use Rattle.tt_scan_dropouts.specs.declared.pixel.Pixel.{Pixel}
use Rattle.tt_scan_dropouts.specs.declared.boxed.BoxedRules.{BoxedRules}
use Rattle.tt_scan_dropouts.specs.declared.picture.Dropout.{Dropout}
use Rattle.tt_scan_dropouts.specs.declared.window.Window.{Window}

-- the window of a frame, for glyphs whose pens lie within the greatest width
abbrev pub shown_window : Frame → Window
shown_window f = record {
  left = (pos 0 -ℤ pos f.margin) -ℤ pos 16384;
  bottom = (f.rise +ℤ pos f.margin) -ℤ pos f.height;
  width = 16384 + f.width;
  height = f.height;
}

pub is_shown : (f : Frame) (pen c r : ℕ) → pen ≤ width_limit → c < f.width → r < f.height
    → has (shown_window f) (column_at f pen c) (line_at f r) ≡ true
is_shown f pen c r low column row =
    let left : int_le ((pos 0 -ℤ pos f.margin) -ℤ pos 16384) (column_at f pen c) ≡ true = grind (arith, ints, low) in
    let right : int_lt (column_at f pen c) (((pos 0 -ℤ pos f.margin) -ℤ pos 16384) +ℤ pos (16384 + f.width)) ≡ true =
    grind (arith, ints, column) in
    let bottom : int_le ((f.rise +ℤ pos f.margin) -ℤ pos f.height) (line_at f r) ≡ true = grind (arith, ints, row) in
    let top : int_lt (line_at f r) (((f.rise +ℤ pos f.margin) -ℤ pos f.height) +ℤ pos f.height) ≡ true =
    grind (arith, ints, row) in
    rw (left, right, bottom, top) refl

-- a column and a row, by the distances of a pixel from the pen and the base line
pub same_column : (f : Frame) (pen c k : ℕ) (column : ℤ) → (column +ℤ pos f.margin) +ℤ pos pen ≡ pos k
    → (k == c) ≡ int_eq column (column_at f pen c)
same_column f pen c k column is = grind (arith, ints, nat_tests, is)

pub same_row : (f : Frame) (r k : ℕ) (row : ℤ) → ((f.rise +ℤ pos f.margin) -ℤ pos 1) -ℤ row ≡ pos k
    → (k == r) ≡ int_eq row (line_at f r)
same_row f r k row is = grind (arith, ints, nat_tests, is)

pub no_column : (f : Frame) (pen c : ℕ) (column : ℤ) → (column +ℤ pos f.margin) +ℤ pos pen ≢ pos c
    → int_eq column (column_at f pen c) ≡ false
no_column f pen c column other = elim (cases_Bool (int_eq column (column_at f pen c))) [
  | inl is ↦ absurd (other (grind (arith, ints, is)))
  | inr not ↦ not
]

pub no_row : (f : Frame) (r : ℕ) (row : ℤ) → ((f.rise +ℤ pos f.margin) -ℤ pos 1) -ℤ row ≢ pos r
    → int_eq row (line_at f r) ≡ false
no_row f r row other = elim (cases_Bool (int_eq row (line_at f r))) [
  | inl is ↦ absurd (other (grind (arith, ints, is)))
  | inr not ↦ not
]

-- one dropout more at the end
or_false : (b : Bool) → (b || false) ≡ b
or_false true = refl
or_false false = refl

pub among_pushed : (ds : List Dropout) (d : Dropout) (c r : ℕ) → is_among (ds ++ d ∷ []) c r ≡ (is_among ds c r || is_at c r d)
among_pushed ds d c r = list_any-append (is_at c r) ds (d ∷ []) ∙ ap (λ b. is_among ds c r || b) (or_false (is_at c r d))

-- the pixels so far, and one more
pixels_more : (ps qs : List Pixel) (c j : ℤ) → has_pixel (ps ++ qs) c j ≡ (has_pixel ps c j || has_pixel qs c j)
pixels_more [] qs c j = refl
pixels_more (p ∷ ps) qs c j = let rest = pixels_more ps qs c j in grind (arith, rest)

or_or : (a b c : Bool) → ((a || b) || c) ≡ (a || (b || c))
or_or true b c = refl
or_or false b c = refl

pub one_pixel_more : (ps : List Pixel) (i : ℕ) (d : Pixel) (c j : ℤ) (old : Bool) → i < length ps
    → ((old || has_pixel (take i ps) c j) || (int_eq (get_or ps i d).column c && int_eq (get_or ps i d).row j))
    ≡ (old || has_pixel (take (i + 1) ps) c j)
one_pixel_more ps i d c j old below =
    let p = get_or ps i d in
    or_or old (has_pixel (take i ps) c j) (int_eq p.column c && int_eq p.row j)
    ∙ ap (λ b. old || b) (ap (λ b. has_pixel (take i ps) c j || b) (sym (or_false (int_eq p.column c && int_eq p.row j)))
    ∙ sym (pixels_more (take i ps) (p ∷ []) c j)
    ∙ ap (λ qs. has_pixel qs c j) (sym (take_more ps i d below)))

-- the dropouts of a row are next to each other
other_row : (c r : ℕ) (d : Dropout) → d.row ≢ r → is_at c r d ≡ false
other_row c r d other = grind (arith, nat_tests, other)

pub none_of_row : (ds : List Dropout) (c r : ℕ) → All (λ d. d.row ≢ r) ds → is_among ds c r ≡ false
none_of_row ds c r others = list_any_none (is_at c r) ds (λ i d below. other_row c r (get_or ds i d) (others i d below))

pub among_split : (ds : List Dropout) (i c r : ℕ) → is_among ds c r ≡ (is_among (take i ds) c r || is_among (drop i ds) c r)
among_split ds i c r =
    ap (list_any (is_at c r)) (sym (take-append-drop i ds)) ∙ list_any-append (is_at c r) (take i ds) (drop i ds)

pub among_more : (ds : List Dropout) (i c r : ℕ) (d : Dropout) → i < length ds
    → is_among (take (i + 1) ds) c r ≡ (is_among (take i ds) c r || is_at c r (get_or ds i d))
among_more ds i c r d below =
    ap (list_any (is_at c r)) (take_more ds i d below) ∙ among_pushed (take i ds) (get_or ds i d) c r

pub not_first : (a b : Bool) → a ≡ false → (a && b) ≡ false
not_first a b white = rw white refl

pub not_second : (a b : Bool) → b ≡ false → (a && b) ≡ false
not_second true b white = white
not_second false b white = refl

-- no dropout of a row comes before its first one
above_none : (ds : List Dropout) (i c r : ℕ) → AllWithin (λ (d : Dropout). d.row < r) ds 0 i → is_among (take i ds) c r ≡ false
above_none [] zero c r above = refl
above_none [] (suc i) c r above = refl
above_none (d ∷ ds) zero c r above = refl
above_none (d ∷ ds) (suc i) c r above =
    let low : d.row < r = above 0 d (omega arith) (omega arith) in
    let other : is_at c r d ≡ false = other_row c r d (λ is. absurd (omega (arith, is))) in
    rw other (above_none ds i c r (λ k e from below. above (suc k) e (omega arith) (omega arith)))

and_false : (old inside : Bool) → old ≡ (old || (inside && false))
and_false true inside = refl
and_false false true = refl
and_false false false = refl

pub none_yet : (ds : List Dropout) (i c r : ℕ) (old inside : Bool) → AllWithin (λ (d : Dropout). d.row < r) ds 0 i
    → old ≡ (old || (inside && is_among (take i ds) c r))
none_yet ds i c r old inside above = rw (above_none ds i c r above) (and_false old inside)

-- all dropouts of a row are done where the next one lies in another row
rest_none : (ds : List Dropout) (i c r : ℕ) → ((k : ℕ) (d : Dropout) → i ≤ k → k < length ds → (get_or ds k d).row ≢ r)
    → is_among (drop i ds) c r ≡ false
rest_none [] zero c r others = refl
rest_none [] (suc i) c r others = refl
rest_none (d ∷ ds) zero c r others = none_of_row (d ∷ ds) c r (λ k e below. others k e (omega arith) below)
rest_none (d ∷ ds) (suc i) c r others =
    rest_none ds i c r (λ k e from below. others (suc k) e (omega (arith, from)) (omega (arith, below)))

pub all_of_row : (ds : List Dropout) (i c r : ℕ) → ((k : ℕ) (d : Dropout) → i ≤ k → k < length ds → (get_or ds k d).row ≢ r)
    → is_among (take i ds) c r ≡ is_among ds c r
all_of_row ds i c r others =
    sym (among_split ds i c r ∙ ap (λ b. is_among (take i ds) c r || b) (rest_none ds i c r others) ∙ or_false (is_among (take i ds) c r))

one_case : (some old : Bool) (c r w : ℕ) (e : Dropout) → e.row ≡ r → e.column < w
    → ((old || (nat_lt c w && some)) || (c == e.column)) ≡ (old || (nat_lt c w && (some || is_at c r e)))
one_case true true c r w e row column = refl
one_case false true c r w e row column = refl
one_case true false c r w e row column = grind (arith, nat_tests, row, column)
one_case false false c r w e row column = grind (arith, nat_tests, row, column)

later_row : (ds : List Dropout) (i k r : ℕ) (d e : Dropout) → IsNonDecreasingBy (λ (d : Dropout). d.row) ds → i ≤ k
    → k < length ds → r ≤ (get_or ds i d).row → ((get_or ds i d).row ≡ r → ⊥) → (get_or ds k e).row ≢ r
later_row ds i k r d e order from below low other is =
    let up = order i k d from below in
    let same : get_or ds k d ≡ get_or ds k e = get_or_default ds k d e below in
    let row : (get_or ds k d).row ≡ r = ap (λ (d : Dropout). d.row) same ∙ is in
    other (omega (arith, up, low, row))

pub row_over : (ds : List Dropout) (i c r : ℕ) (d : Dropout) → IsNonDecreasingBy (λ (d : Dropout). d.row) ds
    → i < length ds → r ≤ (get_or ds i d).row → ((get_or ds i d).row ≡ r → ⊥) → is_among (take i ds) c r ≡ is_among ds c r
row_over ds i c r d order below low other =
    all_of_row ds i c r (λ k e from under. later_row ds i k r d e order from under low other)

-- one more pixel is black
pub one_blackened : (ds : List Dropout) (i c r w : ℕ) (d : Dropout) (old before after : Bool) → i < length ds
    → (get_or ds i d).row ≡ r → (get_or ds i d).column < w → before ≡ (old || (nat_lt c w && is_among (take i ds) c r))
    → after ≡ (before || (c == (get_or ds i d).column)) → after ≡ (old || (nat_lt c w && is_among (take (i + 1) ds) c r))
one_blackened ds i c r w d old before after below row column is next =
    let more = among_more ds i c r d below in
    let e = get_or ds i d in
    rw (next, is, more) (one_case (is_among (take i ds) c r) old c r w e row column)

-- pixels that lie in a window
is_listed : (ps : List Pixel) (i : ℕ) (d : Pixel) → i < length ps
    → has_pixel ps (get_or ps i d).column (get_or ps i d).row ≡ true
is_listed [] i d below = absurd (omega arith)
is_listed (p ∷ ps) zero d below = grind (arith, ints)
is_listed (p ∷ ps) (suc i) d below = let rest = is_listed ps i d (omega arith) in grind (arith, rest)

first_true : (a b : Bool) → (a && b) ≡ true → a ≡ true
first_true true b is = refl
first_true false b is = absurd cc

small_in : (w : Window) (c j : ℤ) → WindowFits (widened 2 w) → has w c j ≡ true → (unsigned_abs c < 2 ^ 32) × (unsigned_abs j < 2 ^ 32)
small_in w c j fits inside =
    let left = fits.left in let width = fits.width in let bottom = fits.bottom in let high = fits.high in
    (grind (arith, ints, inside, left, width), grind (arith, ints, inside, bottom, high))

pub pixels_small : (w : Window) (ps : List Pixel) (is : ℤ → ℤ → Bool) → WindowFits (widened 2 w)
    → ((c j : ℤ) → has_pixel ps c j ≡ (has w c j && is c j)) → (i : ℕ) (d : Pixel) → i < length ps
    → (unsigned_abs (get_or ps i d).column < 2 ^ 32) × (unsigned_abs (get_or ps i d).row < 2 ^ 32)
pixels_small w ps is fits are i d below =
    let p = get_or ps i d in
    let inside : has w p.column p.row ≡ true =
    first_true (has w p.column p.row) (is p.column p.row) (sym (are p.column p.row) ∙ is_listed ps i d below) in
    small_in w p.column p.row fits inside

-- pixels that are seen at a pen
pub seen_at : (w : Window) (ps : List Pixel) (is : ℤ → ℤ → Bool) (c j : ℤ) → has w c j ≡ true
    → ((c j : ℤ) → has_pixel ps c j ≡ (has w c j && is c j)) → has_pixel ps c j ≡ is c j
seen_at w ps is c j inside are = are c j ∙ rw inside refl

from_more : (f : Frame) (rules : BoxedRules) (contours : List (List Edge)) (pens pen : List ℕ) (c r : ℕ)
    → is_dropout_from f rules contours (pens ++ pen) c r
    ≡ (is_dropout_from f rules contours pens c r || is_dropout_from f rules contours pen c r)
from_more f rules contours [] pen c r = refl
from_more f rules contours (p ∷ pens) pen c r =
    ap (λ b. is_dropout rules contours (column_at f p c) (line_at f r) || b) (from_more f rules contours pens pen c r)
    ∙ sym (or_or (is_dropout rules contours (column_at f p c) (line_at f r)) (is_dropout_from f rules contours pens c r)
    (is_dropout_from f rules contours pen c r))

-- the pens so far, and one more
pub one_pen_more : (f : Frame) (rules : BoxedRules) (contours : List (List Edge)) (pens : List ℕ) (i c r : ℕ) (old : Bool)
    → i < length pens
    → ((old || is_dropout_from f rules contours (take i pens) c r)
    || is_dropout rules contours (column_at f (get_or pens i 0) c) (line_at f r))
    ≡ (old || is_dropout_from f rules contours (take (i + 1) pens) c r)
one_pen_more f rules contours pens i c r old below =
    let pen = get_or pens i 0 in
    let now = is_dropout rules contours (column_at f pen c) (line_at f r) in
    or_or old (is_dropout_from f rules contours (take i pens) c r) now
    ∙ ap (λ b. old || b) (ap (λ b. is_dropout_from f rules contours (take i pens) c r || b) (sym (or_false now))
    ∙ sym (from_more f rules contours (take i pens) (pen ∷ []) c r)
    ∙ ap (λ ps. is_dropout_from f rules contours ps c r) (sym (take_more pens i 0 below)))
