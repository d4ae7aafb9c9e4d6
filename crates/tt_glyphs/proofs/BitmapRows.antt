-- The rows of a glyph's ink: painted by its bitmap, or made by its edges and its dropouts, one row more at a time.
use Rattle.std.proofs.Common.{◌≡◌, ◌∙◌, refl, sym, ap, ℕ, ◌+◌, ◌*◌, ◌^◌, ◌<◌, ◌≤◌, Bool, true, false, ◌&&◌, nat_lt, replicate, ℤ, pos, ◌+ℤ◌, ◌-ℤ◌, ◌<ℤ◌, unsigned_abs, List, ◌++◌, length, take, drop, slice_index, zero-add, arith, length-drop, length-take-le}
use Rattle.std.proofs.lemmas.Bool.Decides.{nat_tests}
use Rattle.std.proofs.lemmas.Int.{ints}
use Rattle.std.proofs.lemmas.List.{length-replicate}
use Rattle.std.proofs.lemmas.Nat.{mul-le}
use Rattle.std.proofs.lemmas.Slice.{take-put_mid}
use Rattle.tt_core.specs.Bits.{bit, stride}
use Rattle.tt_core.specs.Limits.{height_limit, width_limit}
use Rattle.tt_bitmap.specs.Bands as bands
use Rattle.tt_bitmap.specs.Bands.{IsBandBlackened}
use Rattle.tt_bitmap.specs.Bitmaps as bitmaps
use Rattle.tt_bitmap.specs.Bitmaps.{BoxBitmap}
use Rattle.tt_picture.specs.Pictures.{Image}
use Rattle.tt_picture.specs.Rows.{rows}
use Rattle.tt_picture.proofs.Alike.{AreAlike, image_alike}
use Rattle.tt_picture.proofs.Bands.{band_is}
use Rattle.tt_picture.proofs.RowBytes.{bit-replicate_zero, length-rows, rows_more}
use Rattle.tt_scan_edges.specs.declared.edge.Edge.{Edge}
use Rattle.tt_scan_edges.specs.declared.mark.Span.{Span}
use Rattle.tt_scan_edges.specs.Marks.{covers}
use Rattle.tt_scan_edges.specs.Winding.{column_x, is_black, row_y}
use Rattle.tt_scan_gaps.specs.Crossings.{centre}
use Rattle.tt_glyphs.specs.Bitmaps.{place_bytes}
use Rattle.tt_glyphs.specs.declared.place.InkPlace.{InkPlace}
use Rattle.tt_glyphs.specs.Drawn.{LargeFits, column_of, frame_of, line_of, row_in, rows_in}
use Rattle.tt_glyphs.specs.Large.{LargeRows}
use borrow.Rule.Slice.PartMut.{put_mid, same_len_mid}

-- rows with the same pixels are the same
pub same_rows : (p : InkPlace) (a b : ℕ → ℕ → Bool) → AreAlike p.width p.height a b
    → rows p.width a 0 (place_bytes p) ≡ rows p.width b 0 (place_bytes p)
same_rows p a b same = ap (λ (i : Image). i.rows) (image_alike (frame_of p) a b same)

-- rows that were white, and then had a bitmap painted from the corner of its place on
pub painted_rows : (p : InkPlace) (b : BoxBitmap) (n : ℕ) (old new : List ℕ) → old ≡ replicate n 0 → n ≡ place_bytes p
    → IsBandBlackened (stride p.width) p.height
    (λ i c. nat_lt c p.width && bitmaps.is_black b (pos c -ℤ (pos 0 -ℤ p.left)) ((p.top -ℤ pos 1) -ℤ pos i)) old new
    → ((i : ℕ) → i < length new → slice_index new i < 256)
    → new ≡ rows_in p (λ c r. bitmaps.is_black b (column_of p c) (line_of p r))
painted_rows p b n old new white count painted bytes =
    let w = p.width in
    let black : ℕ → ℕ → Bool = λ c r. bitmaps.is_black b (column_of p c) (line_of p r) in
    let long : length old ≡ n = ap length white ∙ length-replicate n 0 in
    let made : new ≡ rows w black (stride w * 0) (stride w * p.height) =
    band_is w 0 p.height black new (painted.len ∙ long ∙ count) bytes (λ i c below inside.
    let across : pos c -ℤ (pos 0 -ℤ p.left) ≡ column_of p c = omega (arith, ints) in
    let here : 0 + i ≡ i = omega arith in
    let none : bands.column (stride w) old i c ≡ false = rw white (bit-replicate_zero n (8 * (stride w * i) + c)) in
    painted.columns i c below inside ∙ rw (none, across, here) refl) in
    let start : stride w * 0 ≡ 0 = omega arith in
    rw start at made

-- the columns that edges blacken in a row

guarded : (inside a b : Bool) → (inside ≡ true → a ≡ b) → (inside && a) ≡ (inside && b)
guarded true a b same = same refl
guarded false a b same = refl

column_centre : (left : ℤ) (k : ℕ) → column_x 0 (pos k -ℤ (pos 0 -ℤ left)) ≡ centre (left +ℤ pos k)
column_centre left k = omega (arith, ints)

row_centre : (p : InkPlace) (r : ℕ) → row_y (frame_of p) (pos r) ≡ centre (line_of p r)
row_centre p r = omega (arith, ints)

pub edges_shown : (p : InkPlace) (es : List Edge) (ss : List Span) (r k : ℕ) → unsigned_abs p.left < 2 ^ 18
    → p.width ≤ width_limit
    → ((c : ℤ) → c <ℤ pos (2 ^ 63) → covers ss c ≡ is_black es (column_x 0 c) (row_y (frame_of p) (pos r)))
    → (nat_lt k p.width && covers ss (pos k -ℤ (pos 0 -ℤ p.left)))
    ≡ (nat_lt k p.width && is_black es (centre (column_of p k)) (centre (line_of p r)))
edges_shown p es ss r k near wide black =
    guarded (nat_lt k p.width) _ _ (λ inside.
    let below : k < p.width = grind (arith, nat_tests, inside) in
    let column : ℤ = pos k -ℤ (pos 0 -ℤ p.left) in
    black column (omega (arith, ints, below, near, wide))
    ∙ ap (λ x. is_black es x (row_y (frame_of p) (pos r))) (column_centre p.left k)
    ∙ ap (is_black es (centre (column_of p k))) (row_centre p r))

-- bytes are a row if their bits are its pixels
pub row_is : (p : InkPlace) (black : ℕ → ℕ → Bool) (r : ℕ) (row : List ℕ) → length row ≡ stride p.width
    → ((i : ℕ) → i < length row → slice_index row i < 256)
    → ((k : ℕ) → bit row k ≡ (nat_lt k p.width && black k r)) → row ≡ row_in p black r
row_is p black r row long bytes bits =
    let w = p.width in
    let n = stride w in
    let one : n * 1 ≡ n = omega arith in
    let whole : length row ≡ n * 1 = rw one long in
    let made : row ≡ rows w black (n * r) (n * 1) = band_is w r 1 black row whole bytes
    (λ i c below inside.
    let first : i ≡ 0 = omega (arith, below) in
    let at : 8 * (n * 0) + c ≡ c = omega arith in
    let here : r + 0 ≡ r = omega arith in
    rw first (rw (at, here) (bits c))) in
    rw one at made

-- a row fits into the bytes of all rows
pub row_within : (p : InkPlace) (r : ℕ) → r < p.height → stride p.width * r + stride p.width ≤ place_bytes p
row_within p r below =
    let ends : stride p.width * (r + 1) ≤ stride p.width * p.height =
    mul-le (stride p.width) (r + 1) (stride p.width) p.height (omega arith) (omega (arith, below)) in
    omega (arith, ends)

-- the rows so far, and one more
pub one_row_more : (p : InkPlace) (black : ℕ → ℕ → Bool) (r k : ℕ) (old row : List ℕ) → stride p.width * r ≤ length old
    → take (stride p.width * r) old ≡ rows p.width black 0 (stride p.width * r) → row ≡ row_in p black r
    → take (stride p.width * (r + 1)) (put_mid (stride p.width * r) k old row)
    ≡ rows p.width black 0 (stride p.width * (r + 1))
one_row_more p black r k old row within so_far is =
    let w = p.width in
    let n = stride w in
    let long : length row ≡ n = ap length is ∙ length-rows w black (n * r) n in
    let next : n * (r + 1) ≡ n * r + n = omega arith in
    let joined : rows w black 0 (n * r + n) ≡ rows w black 0 (n * r) ++ rows w black (n * r) n =
    rw zero-add at (rows_more w black 0 (n * r) n) in
    take-put_mid (n * r) k old row (n * (r + 1)) (omega (arith, next, long)) within
    ∙ rw (so_far, is) (sym joined) ∙ ap (rows w black 0) (sym next)

pub len_kept : (p : InkPlace) (black : ℕ → ℕ → Bool) (r k : ℕ) (old row : List ℕ)
    → stride p.width * r + stride p.width ≤ length old → k ≡ stride p.width → row ≡ row_in p black r
    → length (put_mid (stride p.width * r) k old row) ≡ length old
len_kept p black r k old row within whole is =
    let n = stride p.width in
    let long : length row ≡ n = ap length is ∙ length-rows p.width black (n * r) n in
    let cut : length (take k (drop (n * r) old)) ≡ k =
    length-take-le k (drop (n * r) old) (omega (arith, length-drop (n * r) old, whole, within)) in
    same_len_mid (n * r) k old row (omega (arith, cut, whole, long))

-- the crossings so far fit a count of them
pub crosses_fit : (r h n crosses : ℕ) → r < h → h ≤ height_limit → n ≤ 2 ^ 19 → crosses ≤ r * n → crosses + n ≤ 2 ^ 63
crosses_fit r h n crosses below high few so_far =
    let most : r * n ≤ height_limit * 2 ^ 19 = mul-le r n height_limit (2 ^ 19) (omega (arith, below, high)) few in
    omega (arith, most, few, so_far)

pub crosses_more : (r n old new : ℕ) → old ≤ r * n → new ≤ old + n → new ≤ (r + 1) * n
crosses_more r n old new so_far more = omega (arith, so_far, more)

pub no_row_more : (p : InkPlace) (black : ℕ → ℕ → Bool) (bytes : List ℕ)
    → take (stride p.width * 0) bytes ≡ rows p.width black 0 (stride p.width * 0)
no_row_more p black bytes = let none : stride p.width * 0 ≡ 0 = omega arith in rw none refl

-- rows keep their facts where their crossings are counted
pub fits_with : (b : LargeRows) (n : ℕ) → LargeFits b → LargeFits (record b { crosses = n })
fits_with b n fits = record { place = fits.place; frame = fits.frame; few = fits.few; dropouts = fits.dropouts }
