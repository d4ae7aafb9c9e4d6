-- Rows that fit a box, and those that do not.
use Rattle.std.proofs.Common.{◌≡◌, refl, ap, ℕ, ◌-◌, ◌*◌, ◌<◌, ◌≤◌, Bool, true, false, nat_lt, if◌then◌else◌, List, length, Option, None, Some, arith}
use Rattle.std.proofs.lemmas.Bool.{le-ltb, lt-ltb}
use Rattle.std.specs.Prelude.{All}
use Rattle.tt_box.specs.Boxes.{BoxPlace, laid_if_fits, laid_in_box}
use Rattle.tt_label.proofs.RowsPlaced.{HasSize, rows_counted, rows_sized, some_rows}
use Rattle.tt_label_rows.specs.declared.heights.RowHeights.{RowHeights}
use Rattle.tt_label_rows.specs.Pictures.{box_picture, first_rise, is_low}
use Rattle.tt_label_rows.specs.Rows.{breaks_word, text_rows}
use Rattle.tt_line.specs.Labels.{widest}
use Rattle.tt_line.specs.Layout.{Placement}
use Rattle.tt_rows.specs.declared.unit.RowUnit.{RowUnit}

abbrev pub room_of : BoxPlace → ℕ
room_of b = b.width - 2 * b.margin

pub broken_not : (h : RowHeights) (b : BoxPlace) (lines : List (List RowUnit)) → breaks_word (room_of b) lines ≡ true → laid_if_fits h b lines ≡ None
broken_not h b lines broken = rw broken refl

pub wide_not : (h : RowHeights) (b : BoxPlace) (lines : List (List RowUnit)) → breaks_word (room_of b) lines ≡ false
    → room_of b < widest (text_rows (room_of b) lines) → laid_if_fits h b lines ≡ None
wide_not h b lines whole wide = rw (whole, lt-ltb (room_of b) (widest (text_rows (room_of b) lines)) wide) refl

pub high_not : (h : RowHeights) (b : BoxPlace) (lines : List (List RowUnit)) → breaks_word (room_of b) lines ≡ false
    → widest (text_rows (room_of b) lines) ≤ room_of b → is_low h (length (text_rows (room_of b) lines) - 1) b.height b.margin ≡ false
    → laid_if_fits h b lines ≡ None
high_not h b lines whole narrow high = rw (whole, le-ltb (room_of b) (widest (text_rows (room_of b) lines)) narrow, high) refl

pub low_fits : (h : RowHeights) (b : BoxPlace) (lines : List (List RowUnit)) → breaks_word (room_of b) lines ≡ false
    → widest (text_rows (room_of b) lines) ≤ room_of b → is_low h (length (text_rows (room_of b) lines) - 1) b.height b.margin ≡ true
    → laid_if_fits h b lines ≡ Some (laid_in_box h b (text_rows (room_of b) lines))
low_fits h b lines whole narrow low = rw (whole, le-ltb (room_of b) (widest (text_rows (room_of b) lines)) narrow, low) refl

-- and the other way round: rows that fit are in the box, and have its size
some_of : {A : Type 0} (x y z : Bool) (v w : A) → ◌≡◌ {A = Option A} (if x then None else if y then None else if z then Some v else None) (Some w) → w ≡ v
some_of true y z v w is = absurd cc
some_of false true z v w is = absurd cc
some_of false false true v w is = cc
some_of false false false v w is = absurd cc

pub fits_as : (h : RowHeights) (b : BoxPlace) (lines : List (List RowUnit)) (ls : List Placement) → laid_if_fits h b lines ≡ Some ls
    → ls ≡ laid_in_box h b (text_rows (room_of b) lines)
fits_as h b lines ls is =
    some_of (breaks_word (room_of b) lines) (nat_lt (room_of b) (widest (text_rows (room_of b) lines)))
    (is_low h (length (text_rows (room_of b) lines) - 1) b.height b.margin) (laid_in_box h b (text_rows (room_of b) lines)) ls is

pub some_fit : (h : RowHeights) (b : BoxPlace) (lines : List (List RowUnit)) (ls : List Placement) → 1 ≤ length lines → laid_if_fits h b lines ≡ Some ls
    → 1 ≤ length ls
some_fit h b lines ls some is =
    let rs = text_rows (room_of b) lines in
    let many = rows_counted (box_picture b.width b.height b.margin b.align) h.step (first_rise h (length rs - 1) b.height b.margin) rs in
    let rows = some_rows (room_of b) lines some in
    let count = ap length (fits_as h b lines ls is) in
    omega (arith, many, rows, count)

pub all_sized : (h : RowHeights) (b : BoxPlace) (lines : List (List RowUnit)) (ls : List Placement) → laid_if_fits h b lines ≡ Some ls
    → All (HasSize b.width b.height) ls
all_sized h b lines ls is =
    let rs = text_rows (room_of b) lines in
    rw (fits_as h b lines ls is)
    (rows_sized (box_picture b.width b.height b.margin b.align) h.step (first_rise h (length rs - 1) b.height b.margin) rs)
