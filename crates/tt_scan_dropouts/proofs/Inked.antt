-- The rows of a window from the top down, and the inking of one row.
use Rattle.std.proofs.Common.{◌≡◌, ◌∙◌, refl, sym, ap, ◌⊎◌, inl, inr, ℕ, zero, suc, ◌+◌, ◌-◌, ◌*◌, ◌/◌, ◌%◌, ◌^◌, ◌<◌, ◌≤◌, Bool, true, false, ◌&&◌, ◌||◌, nat_lt, int_lt, if◌then◌else◌, ℤ, pos, ◌+ℤ◌, ◌-ℤ◌, ◌<ℤ◌, ◌≤ℤ◌, unsigned_abs, List, [], ◌∷◌, ◌++◌, length, take, drop, slice_index, replicate, arith}
use Rattle.std.specs.Ordering.{int_eq}
use Rattle.std.specs.Prelude.{int_le}
use Rattle.std.proofs.lemmas.Bool.{cases_Bool, cases_eq, cases_lt}
use Rattle.std.proofs.lemmas.Bool.Decides.{nat_tests}
use Rattle.std.proofs.lemmas.Int.{ints}
use Rattle.std.proofs.lemmas.List.{get_or-append_right, get_or-drop, get_or-take, get_or_append_left, length-take-le}
use Rattle.std.proofs.lemmas.Nat.{mul-le}
use Rattle.std.proofs.lemmas.Nat.Bits.{bit_at-zero}
use borrow.Rule.Slice.PartMut.{put_mid}
use Rattle.tt_bitmap.specs.Bands.{IsBandBlackened}
use Rattle.tt_bitmap.specs.Bitmaps as bitmaps
use Rattle.tt_bitmap.specs.Bitmaps.{BoxBitmap}
use Rattle.tt_core.specs.Bits.{bit, stride}
use Rattle.tt_scan_edges.specs.declared.edge.Edge.{Edge}
use Rattle.tt_scan_edges.specs.declared.edge.Frame.{Frame}
use Rattle.tt_scan_edges.specs.declared.mark.Span.{Span}
use Rattle.tt_scan_edges.specs.Marks.{covers}
use Rattle.tt_scan_edges.specs.Winding.{FrameFits, column_x, is_between, is_black, row_y, rows_met}
use Rattle.tt_scan_edges.proofs.Visits.{within_width}
use Rattle.tt_scan_gaps.specs.Crossings.{centre}
use Rattle.tt_scan_dropouts.specs.Windows.{Bitmap, WindowFits, first_row, frame_of, has, has_rows, is_black_in, is_within, place, row_from_top}
use Rattle.tt_scan_dropouts.specs.declared.window.Window.{Window}
use Rattle.tt_scan_gaps.proofs.Tests.{both, eq_of}
use Rattle.tt_scan_dropouts.proofs.Places.{offset_within, or_false, row_within}

-- a window's own frame has its rows, and a frame that has them all has each
pub own_rows : (w : Window) → has_rows (frame_of w) w ≡ true
own_rows w = grind (arith, ints)

pub has_row_of : (f : Frame) (w : Window) (r : ℕ) → has_rows f w ≡ true → r < w.height
    → (pos 0 ≤ℤ (first_row f w +ℤ pos r)) × ((first_row f w +ℤ pos r) <ℤ pos f.height)
has_row_of f w r rows within = grind (arith, ints)

-- the centres of those rows are the window's, and so are those of its columns, counted with the margin
pub row_centre : (f : Frame) (w : Window) (r : ℕ) → row_y f (first_row f w +ℤ pos r) ≡ centre (row_from_top w r)
row_centre f w r = omega (arith, ints)

column_centre : (margin : ℕ) (left : ℤ) (k : ℕ)
    → column_x margin (pos k -ℤ ((pos 0 -ℤ left) -ℤ pos margin)) ≡ centre (left +ℤ pos k)
column_centre margin left k = omega (arith, ints)

-- the column of a frame whose centres have a place
pub centre_of_column : (margin : ℕ) (c : ℤ) → column_x margin (c +ℤ pos margin) ≡ centre c
centre_of_column margin c = omega (arith, ints)

-- the black columns of a row of the frame, moved to the window's
pub row_painted : (w : Window) (f : Frame) (es : List Edge) (ss : List Span) (r k : ℕ) → WindowFits w → FrameFits f
    → ((c : ℤ) → c <ℤ pos (2 ^ 63)
    → covers ss c ≡ is_black es (column_x f.margin c) (row_y f (first_row f w +ℤ pos r)))
    → (nat_lt k w.width && covers ss (pos k -ℤ ((pos 0 -ℤ w.left) -ℤ pos f.margin)))
    ≡ (nat_lt k w.width && is_black es (centre (w.left +ℤ pos k)) (centre (row_from_top w r)))
row_painted w f es ss r k fits frame black =
    within_width k w.width _ _ (λ inside.
    let column = pos k -ℤ ((pos 0 -ℤ w.left) -ℤ pos f.margin) in
    black column (omega (arith, ints, inside, fits.left, fits.width, frame.margin))
    ∙ ap (λ x. is_black es x (row_y f (first_row f w +ℤ pos r))) (column_centre f.margin w.left k)
    ∙ ap (λ y. is_black es (centre (w.left +ℤ pos k)) y) (row_centre f w r))

-- a row meets at most all edges of a list
one_or_none : (b : Bool) → (if b then 1 else 0) ≤ 1
one_or_none true = omega arith
one_or_none false = omega arith

pub met_few : (es : List Edge) (y : ℤ) → rows_met es y ≤ length es
met_few [] y = omega arith
met_few (e ∷ es) y = omega (arith, one_or_none (is_between e.ay e.by y), met_few es y)

-- a list with a part overwritten: the first `a` elements, `ys` in the place of `k`, and the rest

written_below : (a k i : ℕ) (xs ys : List ℕ) → i < a → a ≤ length xs
    → slice_index (put_mid a k xs ys) i ≡ slice_index xs i
written_below a k i xs ys below long =
    let taken = length-take-le a xs long in
    get_or_append_left (take a xs) (ys ++ drop k (drop a xs)) 0 i (omega (arith, taken, below))
    ∙ get_or-take a xs i 0 below

written_within : (a k i : ℕ) (xs ys : List ℕ) → i < length ys → a ≤ length xs
    → slice_index (put_mid a k xs ys) (a + i) ≡ slice_index ys i
written_within a k i xs ys within long =
    let from : (a + i) - a ≡ i = omega arith in
    get_or-append_right (take a xs) (ys ++ drop k (drop a xs)) a (a + i) 0 (length-take-le a xs long) (omega arith)
    ∙ ap (λ n. slice_index (ys ++ drop k (drop a xs)) n) from
    ∙ get_or_append_left ys (drop k (drop a xs)) 0 i within

written_above : (a k i : ℕ) (xs ys : List ℕ) → a + k ≤ i → a ≤ length xs → length ys ≡ k
    → slice_index (put_mid a k xs ys) i ≡ slice_index xs i
written_above a k i xs ys above long count =
    let from : a + (k + ((i - a) - k)) ≡ i = omega (arith, above) in
    get_or-append_right (take a xs) (ys ++ drop k (drop a xs)) a i 0 (length-take-le a xs long) (omega (arith, above))
    ∙ get_or-append_right ys (drop k (drop a xs)) k (i - a) 0 count (omega (arith, above))
    ∙ get_or-drop k (drop a xs) ((i - a) - k) 0 ∙ get_or-drop a xs (k + ((i - a) - k)) 0
    ∙ ap (λ n. slice_index xs n) from

-- the bits of such a list

bit_within : (a k d : ℕ) (xs ys : List ℕ) → d < 8 * k → a ≤ length xs → length ys ≡ k
    → bit (put_mid a k xs ys) (8 * a + d) ≡ bit ys d
bit_within a k d xs ys within long count =
    let byte : (8 * a + d) / 8 ≡ a + d / 8 = omega arith in
    let column : (8 * a + d) % 8 ≡ d % 8 = omega arith in
    rw (byte, column, written_within a k (d / 8) xs ys (omega (arith, within, count)) long) refl

bit_outside : (a k n : ℕ) (xs ys : List ℕ) → (n / 8 < a) ⊎ (a + k ≤ n / 8) → a ≤ length xs → length ys ≡ k
    → bit (put_mid a k xs ys) n ≡ bit xs n
bit_outside a k n xs ys outside long count = elim outside [
  | inl below ↦ rw (written_below a k (n / 8) xs ys below long) refl
  | inr above ↦ rw (written_above a k (n / 8) xs ys above long count) refl
]

-- the bits of that part before
bit_of_part : (a k d : ℕ) (xs : List ℕ) → d < 8 * k → bit (take k (drop a xs)) d ≡ bit xs (8 * a + d)
bit_of_part a k d xs within =
    let byte : (8 * a + d) / 8 ≡ a + d / 8 = omega arith in
    let column : (8 * a + d) % 8 ≡ d % 8 = omega arith in
    let same : slice_index (take k (drop a xs)) (d / 8) ≡ slice_index xs (a + d / 8) =
    get_or-take k (drop a xs) (d / 8) 0 (omega (arith, within)) ∙ get_or-drop a xs (d / 8) 0 in
    rw (byte, column, same) refl

-- the distance of a pixel from the first of its row or column, and the number of that row from the top
offset_is : (first : ℤ) (n : ℕ) (a : ℤ) → is_within first n a ≡ true → first +ℤ pos (unsigned_abs (a -ℤ first)) ≡ a
offset_is first n a within = grind (arith, ints)

row_is : (bottom : ℤ) (h r s : ℕ) (j : ℤ) → r < h → bottom +ℤ pos s ≡ j → s ≡ h - 1 - r
    → (bottom +ℤ pos h) -ℤ pos (r + 1) ≡ j
row_is bottom h r s j within is same = omega (arith, ints)

row_is_not : (bottom : ℤ) (h r s : ℕ) (j : ℤ) → r < h → bottom +ℤ pos s ≡ j → (s ≡ h - 1 - r → ⊥)
    → int_eq ((bottom +ℤ pos h) -ℤ pos (r + 1)) j ≡ false
row_is_not bottom h r s j within is other = elim (cases_Bool (int_eq ((bottom +ℤ pos h) -ℤ pos (r + 1)) j)) [
  | inl same ↦ let at : (bottom +ℤ pos h) -ℤ pos (r + 1) ≡ j = eq_of _ j same in absurd (other (omega (arith, ints)))
  | inr not_same ↦ not_same
]

eq_same : (j : ℤ) → int_eq j j ≡ true
eq_same j = grind (arith, ints)

-- the bytes from those of a row on, of which the row's were written: another row above it is unchanged
above_row : (w : Window) (a k s d : ℕ) (xs ys : List ℕ) (black : ℕ → Bool) → d < w.width → a + k ≡ length xs → length ys ≡ k
    → stride w.width * s + stride w.width ≤ length xs → a + stride w.width ≤ stride w.width * s
    → ((i : ℕ) → bit ys i ≡ (bit (take k (drop a xs)) i || (nat_lt i w.width && black i)))
    → bit (put_mid a k xs ys) (8 * (stride w.width * s) + d) ≡ bit xs (8 * (stride w.width * s) + d)
above_row w a k s d xs ys black column all count within above painted =
    let e : ℕ = 8 * (stride w.width * s) + d - 8 * a in
    let at : 8 * (stride w.width * s) + d ≡ 8 * a + e = omega (arith, above) in
    let inside : e < 8 * k = omega (arith, column, all, within) in
    let over : nat_lt e w.width ≡ false = grind (arith, nat_tests, above) in
    let kept : bit (put_mid a k xs ys) (8 * a + e) ≡ bit xs (8 * a + e) =
    bit_within a k e xs ys inside (omega (arith, all)) count ∙ painted e
    ∙ rw over (sym (or_false (bit (take k (drop a xs)) e))) ∙ bit_of_part a k e xs inside in
    rw at kept

-- a row of the window whose bits were written: the bytes from its first on were, and those of other rows are unchanged
pub row_inked : (w : Window) (black : ℤ → ℤ → Bool) (r a k : ℕ) (xs ys : List ℕ) (c j : ℤ) → r < w.height
    → a ≡ stride w.width * (w.height - 1 - r) → a + k ≡ length xs → length xs ≡ stride w.width * w.height → length ys ≡ k
    → ((d : ℕ) → bit ys d
    ≡ (bit (take k (drop a xs)) d || (nat_lt d w.width && black (w.left +ℤ pos d) (row_from_top w r))))
    → has w c j ≡ true
    → bit (put_mid a k xs ys) (place w c j) ≡ (bit xs (place w c j) || (int_eq (row_from_top w r) j && black c j))
row_inked w black r a k xs ys c j within start all long count painted inside =
    let parts = both (is_within w.left w.width c) (is_within w.bottom w.height j) inside in
    let d = unsigned_abs (c -ℤ w.left) in
    let s = unsigned_abs (j -ℤ w.bottom) in
    let own = w.height - 1 - r in
    let column : d < w.width = offset_within w.left w.width c parts.0 in
    let row : s < w.height = offset_within w.bottom w.height j parts.1 in
    let across = offset_is w.left w.width c parts.0 in
    let up = offset_is w.bottom w.height j parts.1 in
    let room = row_within w.width w.height own (omega (arith, within)) in
    elim (cases_eq s own) [
      | inl same ↦
          let here : row_from_top w r ≡ j = row_is w.bottom w.height r s j within up same in
          let at : place w c j ≡ 8 * a + d = rw (start, same) refl in
          let narrow : d < 8 * k = omega (arith, column, room, all, long, start) in
          let drawn : nat_lt d w.width ≡ true = grind (arith, nat_tests, column) in
          rw (at, here, eq_same j) (bit_within a k d xs ys narrow (omega (arith, all)) count ∙ painted d
          ∙ rw (bit_of_part a k d xs narrow, drawn, across, here) refl)
      | inr other ↦
          let there : int_eq (row_from_top w r) j ≡ false = row_is_not w.bottom w.height r s j within up other in
          let kept : bit (put_mid a k xs ys) (place w c j) ≡ bit xs (place w c j) = elim (cases_lt s own) [
            | inl below ↦
                let less = row_within w.width own s below in
                bit_outside a k (place w c j) xs ys (inl (omega (arith, less, start, column))) (omega (arith, all)) count
            | inr not_below ↦
                let more = row_within w.width s own (omega (arith, other, not_below)) in
                let top = row_within w.width w.height s row in
                above_row w a k s d xs ys (λ i. black (w.left +ℤ pos i) (row_from_top w r)) column all count
                (rw long top) (rw start more) painted
          ] in
          rw there (kept ∙ or_false (bit xs (place w c j)))
    ]

-- a pixel's row is one of the first `r` from the top
abbrev pub is_painted : Window → ℕ → ℤ → Bool
is_painted w r j = int_le ((w.bottom +ℤ pos w.height) -ℤ pos r) j

pub none_painted : (w : Window) (c j : ℤ) → has w c j ≡ true → is_painted w 0 j ≡ false
none_painted w c j inside =
    let within = (both (is_within w.left w.width c) (is_within w.bottom w.height j) inside).1 in
    not_above w.bottom w.height j within where
      not_above : (bottom : ℤ) (h : ℕ) (j : ℤ) → is_within bottom h j ≡ true
          → int_le ((bottom +ℤ pos h) -ℤ pos 0) j ≡ false
      not_above bottom h j within = grind (arith, ints)

pub all_painted : (w : Window) (r : ℕ) (c j : ℤ) → w.height ≤ r → has w c j ≡ true → is_painted w r j ≡ true
all_painted w r c j done inside =
    let within = (both (is_within w.left w.width c) (is_within w.bottom w.height j) inside).1 in
    above w.bottom w.height r j done within where
      above : (bottom : ℤ) (h r : ℕ) (j : ℤ) → h ≤ r → is_within bottom h j ≡ true
          → int_le ((bottom +ℤ pos h) -ℤ pos r) j ≡ true
      above bottom h r j done within = grind (arith, ints)

row_more : (top : ℤ) (r : ℕ) (j : ℤ)
    → (int_le (top -ℤ pos r) j || int_eq (top -ℤ pos (r + 1)) j) ≡ int_le (top -ℤ pos (r + 1)) j
row_more top r j = grind (arith, ints)

either : (a b x : Bool) → ((a && x) || (b && x)) ≡ ((a || b) && x)
either true b true = refl
either true true false = refl
either true false false = refl
either false b x = refl

pub one_row_more : (w : Window) (r : ℕ) (j : ℤ) (black : Bool)
    → ((is_painted w r j && black) || (int_eq (row_from_top w r) j && black)) ≡ (is_painted w (r + 1) j && black)
one_row_more w r j black =
    either (is_painted w r j) (int_eq (row_from_top w r) j) black
    ∙ ap (λ b. b && black) (row_more (w.bottom +ℤ pos w.height) r j)

-- zeros are white
zero_everywhere : (n i : ℕ) → slice_index (replicate n 0) i ≡ 0
zero_everywhere zero i = refl
zero_everywhere (suc n) zero = refl
zero_everywhere (suc n) (suc i) = zero_everywhere n i

pub all_white : (n k : ℕ) → bit (replicate n 0) k ≡ false
all_white n k = rw (zero_everywhere n (k / 8), bit_at-zero) refl

-- where no row above a row is black, none is painted; where no row from a row on is black, all are painted

pub none_above : (w : Window) (black : ℤ → ℤ → Bool) (from : ℕ) (c j : ℤ)
    → ((r : ℕ) → r < w.height → r < from → black c (row_from_top w r) ≡ false) → has w c j ≡ true
    → (is_painted w from j && black c j) ≡ false
none_above w black from c j blank inside =
    let within = (both (is_within w.left w.width c) (is_within w.bottom w.height j) inside).1 in
    let s = unsigned_abs (j -ℤ w.bottom) in
    let row : s < w.height = offset_within w.bottom w.height j within in
    let up = offset_is w.bottom w.height j within in
    elim (cases_Bool (is_painted w from j)) [
      | inl painted ↦
          let above : w.height - 1 - s < from = painted_above w.bottom w.height from s j painted up row in
          let own : row_from_top w (w.height - 1 - s) ≡ j = row_is w.bottom w.height (w.height - 1 - s) s j (omega (arith, row)) up (omega (arith, row)) in
          let white : black c j ≡ false = rw own at (blank (w.height - 1 - s) (omega (arith, row)) above) in
          rw white (and_false (is_painted w from j))
      | inr not ↦ rw not refl
    ] where
      painted_above : (bottom : ℤ) (h from s : ℕ) (j : ℤ) → int_le ((bottom +ℤ pos h) -ℤ pos from) j ≡ true
          → bottom +ℤ pos s ≡ j → s < h → h - 1 - s < from
      painted_above bottom h from s j painted up row = grind (arith, ints, painted, up, row)

      and_false : (b : Bool) → (b && false) ≡ false
      and_false true = refl
      and_false false = refl

pub all_below : (w : Window) (black : ℤ → ℤ → Bool) (to : ℕ) (c j : ℤ)
    → ((r : ℕ) → r < w.height → to ≤ r → black c (row_from_top w r) ≡ false) → has w c j ≡ true
    → (is_painted w to j && black c j) ≡ black c j
all_below w black to c j blank inside =
    let within = (both (is_within w.left w.width c) (is_within w.bottom w.height j) inside).1 in
    let s = unsigned_abs (j -ℤ w.bottom) in
    let row : s < w.height = offset_within w.bottom w.height j within in
    let up = offset_is w.bottom w.height j within in
    elim (cases_Bool (is_painted w to j)) [
      | inl painted ↦ rw painted refl
      | inr not ↦
          let below : to ≤ w.height - 1 - s = not_painted w.bottom w.height to s j not up row in
          let own : row_from_top w (w.height - 1 - s) ≡ j = row_is w.bottom w.height (w.height - 1 - s) s j (omega (arith, row)) up (omega (arith, row)) in
          let white : black c j ≡ false = rw own at (blank (w.height - 1 - s) (omega (arith, row)) below) in
          rw (not, white) refl
    ] where
      not_painted : (bottom : ℤ) (h to s : ℕ) (j : ℤ) → int_le ((bottom +ℤ pos h) -ℤ pos to) j ≡ false
          → bottom +ℤ pos s ≡ j → s < h → to ≤ h - 1 - s
      not_painted bottom h to s j painted up row = grind (arith, ints, painted, up, row)

-- the crossings of the rows so far, and of one row more, can be counted
pub count_fits : (r h n crosses : ℕ) → r < h → h ≤ 4100 → n ≤ 2 ^ 32 → crosses ≤ r * n → crosses + n ≤ 2 ^ 63
count_fits r h n crosses within low few so_far =
    let most : r * n ≤ 4100 * 2 ^ 32 = mul-le r n 4100 (2 ^ 32) (omega (arith, within, low)) few in
    omega (arith, most, so_far, few)

-- a bitmap painted in one row of bytes of the window, which is `s` rows above its bottom

same_line : (bottom : ℤ) (s : ℕ) (j : ℤ) → bottom +ℤ pos s ≡ j → int_eq (bottom +ℤ pos s) j ≡ true
same_line bottom s j is = grind (arith, ints, is)

other_line : (bottom : ℤ) (n s : ℕ) (j : ℤ) → bottom +ℤ pos n ≡ j → (n ≡ s → ⊥) → int_eq (bottom +ℤ pos s) j ≡ false
other_line bottom n s j is other = elim (cases_Bool (int_eq (bottom +ℤ pos s) j)) [
  | inl same ↦ let at : bottom +ℤ pos s ≡ j = eq_of _ j same in absurd (other (omega (arith, ints)))
  | inr not_same ↦ not_same
]

pub line_painted : (w : Window) (black : ℤ → ℤ → Bool) (s a k : ℕ) (xs ys : List ℕ) (c j : ℤ) → s < w.height
    → a ≡ stride w.width * s → k ≡ stride w.width → length xs ≡ stride w.width * w.height → length ys ≡ k
    → ((d : ℕ) → d < 8 * k
    → bit ys d ≡ (bit (take k (drop a xs)) d || (nat_lt d w.width && black (w.left +ℤ pos d) (w.bottom +ℤ pos s))))
    → has w c j ≡ true
    → bit (put_mid a k xs ys) (place w c j) ≡ (bit xs (place w c j) || (int_eq (w.bottom +ℤ pos s) j && black c j))
line_painted w black s a k xs ys c j within start size long count painted inside =
    let parts = both (is_within w.left w.width c) (is_within w.bottom w.height j) inside in
    let d = unsigned_abs (c -ℤ w.left) in
    let n = unsigned_abs (j -ℤ w.bottom) in
    let column : d < w.width = offset_within w.left w.width c parts.0 in
    let row : n < w.height = offset_within w.bottom w.height j parts.1 in
    let across = offset_is w.left w.width c parts.0 in
    let up = offset_is w.bottom w.height j parts.1 in
    let room = row_within w.width w.height s within in
    let before : a ≤ length xs = rw (long, start) (omega (arith, room)) in
    elim (cases_eq n s) [
      | inl same ↦
          let here : w.bottom +ℤ pos s ≡ j = rw (← same) up in
          let at : place w c j ≡ 8 * a + d = rw (same, start) refl in
          let narrow : d < 8 * k = omega (arith, column, size) in
          let drawn : nat_lt d w.width ≡ true = grind (arith, nat_tests, column) in
          rw (at, same_line w.bottom s j here) (bit_within a k d xs ys narrow before count ∙ painted d narrow
          ∙ rw (bit_of_part a k d xs narrow, drawn, across, here) refl)
      | inr other ↦
          let kept : bit (put_mid a k xs ys) (place w c j) ≡ bit xs (place w c j) = elim (cases_lt n s) [
            | inl below ↦
                let less = row_within w.width s n below in
                bit_outside a k (place w c j) xs ys (inl (omega (arith, less, column, start))) before count
            | inr not_below ↦
                let more = row_within w.width n s (omega (arith, other, not_below)) in
                bit_outside a k (place w c j) xs ys (inr (omega (arith, more, column, start, size))) before count
          ] in
          rw (other_line w.bottom n s j up other) (kept ∙ or_false (bit xs (place w c j)))
    ]

-- one row of bytes in which a bitmap is painted
pub painted_row : (bytes : ℕ) (w : Window) (s d : ℕ) (black : ℤ → ℤ → Bool) (old new : List ℕ)
    → IsBandBlackened bytes 1 (λ i c. nat_lt c w.width && black (pos c -ℤ (pos 0 -ℤ w.left)) ((w.bottom +ℤ pos s) -ℤ pos i)) old new
    → d < 8 * bytes
    → bit new d ≡ (bit old d || (nat_lt d w.width && black (w.left +ℤ pos d) (w.bottom +ℤ pos s)))
painted_row bytes w s d black old new painted narrow =
    let at : 8 * (bytes * 0) + d ≡ d = omega arith in
    let across : pos d -ℤ (pos 0 -ℤ w.left) ≡ w.left +ℤ pos d = omega (arith, ints) in
    let up : (w.bottom +ℤ pos s) -ℤ pos 0 ≡ w.bottom +ℤ pos s = omega (arith, ints) in
    let here : bit new (8 * (bytes * 0) + d) ≡ (bit old (8 * (bytes * 0) + d)
    || (nat_lt d w.width && black (pos d -ℤ (pos 0 -ℤ w.left)) ((w.bottom +ℤ pos s) -ℤ pos 0))) = painted.columns 0 d (omega arith) narrow in
    rw (at, across, up) at here

-- a pixel's row is one of the first `s` from the bottom
abbrev pub is_begun : Window → ℕ → ℤ → Bool
is_begun w s j = int_lt j (w.bottom +ℤ pos s)

pub none_begun : (w : Window) (c j : ℤ) → has w c j ≡ true → is_begun w 0 j ≡ false
none_begun w c j inside =
    let within = (both (is_within w.left w.width c) (is_within w.bottom w.height j) inside).1 in
    not_below w.bottom w.height j within where
      not_below : (bottom : ℤ) (h : ℕ) (j : ℤ) → is_within bottom h j ≡ true → int_lt j (bottom +ℤ pos 0) ≡ false
      not_below bottom h j within = grind (arith, ints)

pub all_begun : (w : Window) (s : ℕ) (c j : ℤ) → s ≡ w.height → has w c j ≡ true → is_begun w s j ≡ true
all_begun w s c j done inside =
    let within = (both (is_within w.left w.width c) (is_within w.bottom w.height j) inside).1 in
    below w.bottom w.height s j done within where
      below : (bottom : ℤ) (h s : ℕ) (j : ℤ) → s ≡ h → is_within bottom h j ≡ true → int_lt j (bottom +ℤ pos s) ≡ true
      below bottom h s j done within = grind (arith, ints)

line_more : (bottom : ℤ) (s : ℕ) (j : ℤ)
    → (int_lt j (bottom +ℤ pos s) || int_eq (bottom +ℤ pos s) j) ≡ int_lt j (bottom +ℤ pos (s + 1))
line_more bottom s j = grind (arith, ints)

pub one_line_more : (w : Window) (s : ℕ) (j : ℤ) (black : Bool)
    → ((is_begun w s j && black) || (int_eq (w.bottom +ℤ pos s) j && black)) ≡ (is_begun w (s + 1) j && black)
one_line_more w s j black =
    either (is_begun w s j) (int_eq (w.bottom +ℤ pos s) j) black ∙ ap (λ b. b && black) (line_more w.bottom s j)

-- what is black in a bitmap of a box is black where it is painted, as is all outside of the window
pub painted_more : (b : Bitmap) (box : BoxBitmap) (w : Window) → b.window ≡ w
    → ((c j : ℤ) → has w c j ≡ true → is_black_in b c j ≡ bitmaps.is_black box c j)
    → (c j : ℤ) → bitmaps.is_black box c j ≡ true → is_black_in b c j ≡ true
painted_more b box w window painted c j there = elim (cases_Bool (has w c j)) [
  | inl inside ↦ painted c j inside ∙ there
  | inr outside ↦ let out : has b.window c j ≡ false = rw window outside in rw out refl
]
