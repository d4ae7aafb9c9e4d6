-- What a glyph counts: the rows and the bitmaps that it needs, and as much at each pen.
use Rattle.std.proofs.Common.{◌≡◌, ◌∙◌, sym, refl, ap, ℕ, zero, suc, ◌+◌, ◌-◌, ◌*◌, ◌/◌, ◌≤◌, min, mul-add, mul-le-mul_right, Bool, true, false, ◌&&◌, if◌then◌else◌, List, [], ◌∷◌, length, map, get_or, sum_by, arith}
use Rattle.std.specs.Prelude.{ℤ, pos, ◌+ℤ◌, ◌-ℤ◌, ◌*ℤ◌, ◌≤ℤ◌, ◌<ℤ◌, int_le, unsigned_abs}
use Rattle.std.specs.Int.{int_max, int_min}
use Rattle.std.specs.List.{range_with_len}
use Rattle.std.proofs.lemmas.Int.{clamps, ints}
use Rattle.std.proofs.lemmas.List.{length-map}
use Rattle.std.proofs.lemmas.List.Sums.{sum_by-cons, sum_by-le}
use Rattle.std.proofs.lemmas.Nat.{mul-le}
use Rattle.tt_core.specs.Bits.{stride}
use Rattle.tt_scan_edges.specs.declared.edge.Edge.{Edge}
use Rattle.tt_scan_edges.specs.declared.edge.Frame.{Frame}
use Rattle.tt_scan_edges.specs.Winding.{crossings_of, is_between, row_y, rows_met}
use Rattle.tt_scan_edges.proofs.Ranges.{between_from}
use Rattle.tt_scan_dropouts.specs.Counted.{bands, bands_bytes, bitmap_bytes, box_rows, edges_counted, extent_columns, extent_rows, filling_counted, numbers_in, rows_counted, rows_of_band}
use Rattle.tt_scan_gaps.specs.Crossings.{line_from, lines_crossed}
use Rattle.tt_scan_gaps.specs.Boxes.{columns_between, columns_of, reached, rows_reached}
use Rattle.tt_scan_gaps.specs.Seen.{turned_round}
use Rattle.tt_scan_dropouts.specs.Dropouts.{crossed}
use Rattle.tt_scan_dropouts.specs.Laws.{BandsAreCounted, BitmapIsCounted, CountsStay, RowsAreCounted, extents_moved, moved}
use Rattle.tt_scan_gaps.specs.declared.extent.Extents.{Extents}
use Rattle.tt_scan_gaps.specs.declared.mark.Columns.{Columns}
use Rattle.tt_scan_gaps.proofs.Lines.{floor_high, floor_low}
use Rattle.tt_scan_dropouts.proofs.Moved.{contour_turned}
use Rattle.tt_scan_dropouts.proofs.MovedGaps.{between_moved, box_moved, columns_moved}
use Rattle.tt_scan_dropouts.proofs.MovedLines.{apart_moved, line_from_moved}

-- whether a row meets an edge, as a count
meets : Frame → Edge → ℕ → ℕ
meets f e row = if is_between e.ay e.by (row_y f (pos row)) then 1 else 0

both : (g h : ℕ → ℕ) (rows : List ℕ) → sum_by (λ r. g r + h r) rows ≡ sum_by g rows + sum_by h rows
both g h [] = refl
both g h (r ∷ rows) =
    let all = sum_by-cons (λ (q : ℕ). g q + h q) r rows in
    let one = sum_by-cons g r rows in
    let two = sum_by-cons h r rows in
    let rest = both g h rows in
    omega arith

-- the rows of some that an edge meets lie from a first up to a past one
one_more : (b : Bool) (first past : ℤ) (i rest : ℕ) → (b ≡ true → (first ≤ℤ pos i) × (pos i <ℤ past))
    → pos rest ≤ℤ int_max (pos 0) (past -ℤ int_max first (pos (i + 1)))
    → pos ((if b then 1 else 0) + rest) ≤ℤ int_max (pos 0) (past -ℤ int_max first (pos i))
one_more true first past i rest within so_far =
    let here = within refl in omega (arith, ints, clamps, here.0, here.1, so_far)
one_more false first past i rest within so_far = omega (arith, ints, clamps, so_far)

no_more_than : (a b : ℕ) (most : ℤ) → a ≡ b → pos b ≤ℤ most → pos a ≤ℤ most
no_more_than a b most same less = rw same less

rows_between : (f : Frame) (e : Edge) (first past : ℤ) (i n : ℕ)
    → ((row : ℕ) → is_between e.ay e.by (row_y f (pos row)) ≡ true → (first ≤ℤ pos row) × (pos row <ℤ past))
    → pos (sum_by (meets f e) (range_with_len i n)) ≤ℤ int_max (pos 0) (past -ℤ int_max first (pos i))
unfolding meets
rows_between f e first past i zero within = omega (arith, ints, clamps)
rows_between f e first past i (suc n) within =
    let rest = rows_between f e first past (i + 1) n within in
    no_more_than _ _ _ (sum_by-cons (meets f e) i (range_with_len (i + 1) n))
    (one_more (is_between e.ay e.by (row_y f (pos i))) first past i _ (within i) rest)

and_both : (a b : Bool) → (a && b) ≡ true → (a ≡ true) × (b ≡ true)
and_both true b is = (refl, is)
and_both false b is = absurd cc

-- a row that meets an edge is not above the line of its upper end, nor below the line of its lower end
between_lines : (top a b : ℤ) (row : ℕ) → is_between a b (pos 8192 *ℤ (top -ℤ pos row) -ℤ pos 4096) ≡ true
    → (((top -ℤ pos 1) -ℤ int_max (line_from a) (line_from b)) ≤ℤ pos row)
    × (pos row <ℤ (((top -ℤ pos 1) -ℤ int_min (line_from a) (line_from b)) +ℤ pos 1))
between_lines top a b row is =
    let y : ℤ = pos 8192 *ℤ (top -ℤ pos row) -ℤ pos 4096 in
    let ends = and_both (int_le (int_min a b) y) (int_le y (int_max a b))
    (sym (between_from a b y (int_min a b) (int_max a b) y refl refl) ∙ is) in
    let low : int_min a b ≤ℤ y = let at = ends.0 in grind (arith, ints, at) in
    let high : y ≤ℤ int_max a b = let at = ends.1 in grind (arith, ints, at) in
    let a_low = floor_low (a +ℤ pos 4095) in let a_high = floor_high (a +ℤ pos 4095) in
    let b_low = floor_low (b +ℤ pos 4095) in let b_high = floor_high (b +ℤ pos 4095) in
    (omega (arith, ints, clamps, low, high), omega (arith, ints, clamps, low, high))

as_many : (top a b : ℤ) (n : ℕ)
    → pos n ≤ℤ int_max (pos 0) (((top -ℤ int_min a b) +ℤ pos 1) -ℤ int_max (top -ℤ int_max a b) (pos 0))
    → n ≤ 1 + unsigned_abs (b -ℤ a)
as_many top a b n few = omega (arith, ints, clamps, few)

rows_of_edge : (f : Frame) (e : Edge) → sum_by (meets f e) (range_with_len 0 f.height) ≤ 1 + lines_crossed e
rows_of_edge f e =
    let top : ℤ = (f.rise +ℤ pos f.margin) -ℤ pos 1 in
    let a = line_from e.ay in
    let b = line_from e.by in
    as_many top a b _ (rows_between f e (top -ℤ int_max a b) ((top -ℤ int_min a b) +ℤ pos 1) 0 f.height
    (between_lines (f.rise +ℤ pos f.margin) e.ay e.by))

no_rows : (g : ℕ → ℕ) (rows : List ℕ) → ((r : ℕ) → g r ≡ 0) → sum_by g rows ≤ 0
no_rows g rows zeros =
    let most = sum_by-le g 0 rows (λ k d below. let none = zeros (get_or rows k d) in omega (arith, none)) in omega (arith, most)

-- each edge meets at most one row more than it crosses
rows_needed : (f : Frame) (es : List Edge) → crossings_of f es ≤ length es + rows_counted es
unfolding meets
rows_needed f [] = no_rows (λ row. rows_met [] (row_y f (pos row))) (range_with_len 0 f.height) (λ r. refl)
rows_needed f (e ∷ es) =
    let apart = both (meets f e) (λ row. rows_met es (row_y f (pos row))) (range_with_len 0 f.height) in
    let one = rows_of_edge f e in
    let rest = rows_needed f es in
    omega (arith, apart, one, rest)

some_band : (n : ℕ) → 1 ≤ bands (n + 1)
some_band n = omega arith

for_bands : (c n b r h : ℕ) → 1 ≤ b → c ≤ n + r → c ≤ b * n + (r + h)
for_bands c n b r h some few = let each : 1 * n ≤ b * n = mul-le-mul_right n some in omega (arith, each, few)

pub rows_are_counted : RowsAreCounted
unfolding edges_counted
rows_are_counted f es =
    let b = columns_of (map turned_round es) in
    for_bands (crossings_of f es) (length es) (bands (box_rows es)) (rows_counted es) (box_rows es)
    (some_band (unsigned_abs (b.last -ℤ b.first))) (rows_needed f es)

-- bitmaps

strides : (a b : ℕ) → a ≤ b → stride a ≤ stride b
strides a b less = omega (arith, less)

counted_too : (a b n : ℕ) → a ≤ b → a / 64 ≤ n + b / 64
counted_too a b n less = omega (arith, less)

sum_counted : (sum a b n : ℕ) → sum ≡ a → a ≤ b → sum / 64 ≤ n + b / 64
sum_counted sum a b n is less = omega (arith, is, less)

within_bands : (c w r h : ℕ) → c ≤ w → r ≤ h + 1 → bitmap_bytes c r ≤ bands_bytes w (h + 1)
within_bands c w r h narrow low =
    let some = some_band h in
    mul-le (stride (c + 10)) (r + 10) (stride (w + 10)) ((h + 1) + 10 * bands (h + 1))
    (strides (c + 10) (w + 10) (omega (arith, narrow))) (omega (arith, low, some))

pub bitmap_is_counted : BitmapIsCounted
unfolding filling_counted
bitmap_is_counted b es columns rows narrow low =
    let r = rows_reached true b in
    counted_too (bitmap_bytes columns rows) (bands_bytes (extent_columns b) (extent_rows b))
    ((bands (extent_rows b) + 3) * crossed es)
    (within_bands columns (extent_columns b) rows (unsigned_abs (r.last -ℤ r.first)) narrow low)

-- the rows of all bands are all rows
one_more_band : (rows k n rest : ℕ) → rest ≡ min (2048 * n) (rows - 2048 * (k + 1))
    → rows_of_band rows k + rest ≡ min (2048 * suc n) (rows - 2048 * k)
one_more_band rows k n rest is = omega (arith, is)

rows_of_bands : (rows k n : ℕ) → sum_by (rows_of_band rows) (range_with_len k n) ≡ min (2048 * n) (rows - 2048 * k)
rows_of_bands rows k zero = omega arith
rows_of_bands rows k (suc n) = sum_by-cons (rows_of_band rows) k (range_with_len (k + 1) n)
    ∙ one_more_band rows k n _ (rows_of_bands rows (k + 1) n)

one_band : (s h t n : ℕ) → s * (h + 10) + s * (t + 10 * n) ≡ s * ((h + t) + 10 * suc n)
one_band s h t n =
    let more : (h + 10) + (t + 10 * n) ≡ (h + t) + 10 * suc n = omega arith in
    sym (mul-add s (h + 10) (t + 10 * n)) ∙ ap (λ m. s * m) more

bytes_of_bands : (columns rows k n : ℕ)
    → sum_by (λ k. bitmap_bytes columns (rows_of_band rows k)) (range_with_len k n)
    ≡ stride (columns + 10) * (sum_by (rows_of_band rows) (range_with_len k n) + 10 * n)
bytes_of_bands columns rows k zero = omega arith
bytes_of_bands columns rows k (suc n) =
    let rest = range_with_len (k + 1) n in
    sum_by-cons (λ k. bitmap_bytes columns (rows_of_band rows k)) k rest
    ∙ ap (λ m. bitmap_bytes columns (rows_of_band rows k) + m) (bytes_of_bands columns rows (k + 1) n)
    ∙ one_band (stride (columns + 10)) (rows_of_band rows k) (sum_by (rows_of_band rows) rest) n
    ∙ ap (λ m. stride (columns + 10) * (m + 10 * suc n)) (sym (sum_by-cons (rows_of_band rows) k rest))

all_rows : (rows : ℕ) → sum_by (rows_of_band rows) (range_with_len 0 (bands rows)) ≡ rows
all_rows rows = let all = rows_of_bands rows 0 (bands rows) in omega (arith, all)

wider : (c w rows : ℕ) → c ≤ w → bands_bytes c rows ≤ bands_bytes w rows
wider c w rows narrow = mul-le-mul_right (rows + 10 * bands rows) (strides (c + 10) (w + 10) (omega (arith, narrow)))

pub bands_are_counted : BandsAreCounted
unfolding filling_counted
bands_are_counted b es columns narrow =
    let rows = extent_rows b in
    let bytes = bytes_of_bands columns rows 0 (bands rows)
    ∙ ap (λ m. stride (columns + 10) * (m + 10 * bands rows)) (all_rows rows) in
    sum_counted _ (bands_bytes columns rows) (bands_bytes (extent_columns b) rows) ((bands rows + 3) * crossed es) bytes
    (wider columns (extent_columns b) rows narrow)

-- edges moved by whole pixels

numbers_moved : (k : ℤ) (b : Columns) → numbers_in (columns_moved k b) ≡ numbers_in b
numbers_moved k b = ap (λ d. unsigned_abs d + 1) (apart_moved b.last b.first k)

box_columns_stay : (k m : ℤ) (es : List Edge) → numbers_in (columns_of (map (moved k m) es)) ≡ numbers_in (columns_of es)
box_columns_stay k m [] = refl
box_columns_stay k m (e ∷ es) = ap numbers_in (box_moved k m e es) ∙ numbers_moved k (columns_of (e ∷ es))

reached_moved : (k : ℤ) (b : Columns) → reached true (columns_moved k b) ≡ columns_moved k (reached true b)
reached_moved k b =
    let first : (b.first +ℤ k) -ℤ pos 1 ≡ (b.first -ℤ pos 1) +ℤ k = omega (arith, ints) in
    let last : (b.last +ℤ k) +ℤ pos 1 ≡ (b.last +ℤ pos 1) +ℤ k = omega (arith, ints) in
    rw (first, last) refl

extent_stays : (k low high : ℤ) → numbers_in (reached true (columns_between (low +ℤ pos 8192 *ℤ k) (high +ℤ pos 8192 *ℤ k)))
    ≡ numbers_in (reached true (columns_between low high))
extent_stays k low high =
    ap (λ b. numbers_in (reached true b)) (between_moved k low high)
    ∙ ap numbers_in (reached_moved k (columns_between low high))
    ∙ numbers_moved k (reached true (columns_between low high))

box_rows_stay : (k m : ℤ) (es : List Edge) → box_rows (map (moved k m) es) ≡ box_rows es
box_rows_stay k m es = ap (λ turned. numbers_in (columns_of turned)) (contour_turned k m es)
    ∙ box_columns_stay m k (map turned_round es)

lines_stay : (k m : ℤ) (e : Edge) → lines_crossed (moved k m e) ≡ lines_crossed e
lines_stay k m e =
    rw (line_from_moved e.ay m, line_from_moved e.by m, apart_moved (line_from e.by) (line_from e.ay) m) refl

rows_stay : (k m : ℤ) (es : List Edge) → rows_counted (map (moved k m) es) ≡ rows_counted es
rows_stay k m [] = refl
rows_stay k m (e ∷ es) = rw (lines_stay k m e, rows_stay k m es) refl

crossed_stay : (k m : ℤ) (es : List Edge) → crossed (map (moved k m) es) ≡ crossed es
crossed_stay k m [] = refl
crossed_stay k m (e ∷ es) =
    let columns : lines_crossed (turned_round (moved k m e)) ≡ lines_crossed (turned_round e) = lines_stay m k (turned_round e) in
    rw (lines_stay k m e, columns, crossed_stay k m es) refl

edges_as : (r q n l c d : ℕ) → r ≡ q → n ≡ l → c ≡ d → bands r * n + (c + r) ≡ bands q * l + (d + q)
edges_as r q n l c d rows many lines = rw (rows, many, lines) refl

pub edges_stay : (k m : ℤ) (es : List Edge) → edges_counted (map (moved k m) es) ≡ edges_counted es
unfolding edges_counted
edges_stay k m es =
    edges_as (box_rows (map (moved k m) es)) (box_rows es) (length (map (moved k m) es)) (length es)
    (rows_counted (map (moved k m) es)) (rows_counted es) (box_rows_stay k m es) (length-map es (moved k m))
    (rows_stay k m es)

filling_as : (c d w v h g : ℕ) → c ≡ d → w ≡ v → h ≡ g
    → (bands h + 3) * c + bands_bytes w h / 64 ≡ (bands g + 3) * d + bands_bytes v g / 64
filling_as c d w v h g lines columns rows = rw (lines, columns, rows) refl

pub filling_stays : (k m : ℤ) (b : Extents) (es : List Edge)
    → filling_counted (extents_moved k m b) (map (moved k m) es) ≡ filling_counted b es
unfolding filling_counted
filling_stays k m b es =
    filling_as (crossed (map (moved k m) es)) (crossed es) (extent_columns (extents_moved k m b)) (extent_columns b)
    (extent_rows (extents_moved k m b)) (extent_rows b) (crossed_stay k m es)
    (extent_stays k b.across.low b.across.high) (extent_stays m b.up.low b.up.high)

pub counts_stay : CountsStay
counts_stay k m b es = (edges_stay k m es, filling_stays k m b es)
