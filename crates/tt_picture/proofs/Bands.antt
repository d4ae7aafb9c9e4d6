-- Rows of a picture's bytes that are made together.
use Rattle.std.proofs.Common.{◌≡◌, ◌∙◌, ap, sym, refl, ℕ, ◌+◌, ◌-◌, ◌*◌, ◌/◌, ◌%◌, ◌<◌, ◌≤◌, Bool, true, false, ◌&&◌, ◌||◌, ◌==◌, nat_lt, List, [], ◌∷◌, length, take, drop, replicate, min, slice_index, ℤ, pos, ◌-ℤ◌, arith, inl, inr}
use Rattle.std.specs.Int.{bit_at}
use Rattle.std.proofs.Math.Nat.{min-le_right}
use Rattle.std.proofs.lemmas.Bool.{cases_lt}
use Rattle.std.proofs.lemmas.Bool.Decides.{nat_tests}
use Rattle.std.proofs.lemmas.Grind.{same_number_lists}
use Rattle.std.proofs.lemmas.Int.{ints}
use Rattle.std.proofs.lemmas.List.{get_or-drop, get_or-take, length-replicate}
use Rattle.std.proofs.lemmas.List.FromFn.{get_or-map-range_with_len}
use Rattle.std.proofs.lemmas.Nat.{div-add-mod', div-mul-add, div_below, le-div, mod-mul-add, mod_below, mul-le}
use Rattle.tt_bitmap.specs.Bands.{IsBandBlackened, column}
use Rattle.tt_bitmap.proofs.Bands.{not_painted, painted_over, repainted}
use Rattle.tt_bitmap.specs.Bitmaps.{is_black}
use Rattle.tt_core.specs.Bits.{stride}
use Rattle.tt_core.specs.Limits.{width_limit}
use Rattle.tt_picture.specs.Rows.{byte_at, byte_of, rows, shows}
use Rattle.tt_picture.specs.Stamps.{AreRowsOf, stamp_shows}
use Rattle.tt_picture.specs.declared.stamp.PlacedBitmap.{PlacedBitmap}
use Rattle.tt_picture.proofs.Blackened.{and_false, guarded_or, shown_within, twice_within}
use Rattle.tt_picture.proofs.RowBytes.{bit-replicate_zero, byte_is, length-rows, take-rows}
use Rattle.tt_picture.proofs.RowsCut.{rows_after}
use Rattle.tt_scan_dropouts.specs.Pictures.{is_among}
use Rattle.tt_scan_dropouts.specs.declared.picture.Dropout.{Dropout}
use Rattle.tt_scan_edges.specs.declared.edge.Frame.{Frame}

-- pixels so far, and some more, within a width
pub painted_more : (bytes rows w : ℕ) (some one both : ℕ → ℕ → Bool) (old mid new : List ℕ)
    → IsBandBlackened bytes rows (λ i c. nat_lt c w && some c i) old mid
    → IsBandBlackened bytes rows (λ i c. nat_lt c w && one c i) mid new
    → ((c i : ℕ) → c < w → i < rows → both c i ≡ (some c i || one c i))
    → IsBandBlackened bytes rows (λ i c. nat_lt c w && both c i) old new
painted_more bytes rows w some one both old mid new so_far more same =
    painted_over bytes rows (λ i c. nat_lt c w && some c i) (λ i c. nat_lt c w && one c i) (λ i c. nat_lt c w && both c i)
    old mid new so_far more
    (λ i c below. guarded_or (nat_lt c w) (some c i) (one c i) (both c i)
    (λ inside. same c i (grind (arith, nat_tests, inside)) below))

-- no pixel
pub none_painted : (bytes rows w : ℕ) (none : ℕ → ℕ → Bool) (band : List ℕ) → ((c i : ℕ) → none c i ≡ false)
    → IsBandBlackened bytes rows (λ i c. nat_lt c w && none c i) band band
none_painted bytes rows w none band white =
    not_painted bytes rows (λ i c. nat_lt c w && none c i) band (λ i c. and_false (nat_lt c w) (none c i) (white c i))

-- a bitmap at its place
pub stamp_painted : (w : ℕ) (s : PlacedBitmap) (from count : ℕ) (line : ℤ) (old new : List ℕ) → line ≡ s.top -ℤ pos from
    → IsBandBlackened (stride w) count (λ j c. nat_lt c w && is_black s.cut.value.bitmap (pos c -ℤ pos s.column) (line -ℤ pos j)) old new
    → IsBandBlackened (stride w) count (λ j c. nat_lt c w && stamp_shows s c (from + j)) old new
stamp_painted w s from count line old new at painted =
    repainted (stride w) count (λ j c. nat_lt c w && is_black s.cut.value.bitmap (pos c -ℤ pos s.column) (line -ℤ pos j))
    (λ j c. nat_lt c w && stamp_shows s c (from + j)) old new painted
    (λ j c below.
    let first : (s.top -ℤ pos from) -ℤ pos j ≡ s.top -ℤ pos (from + j) = omega (arith, ints) in
    let here : line -ℤ pos j ≡ s.top -ℤ pos (from + j) = rw at first in
    ap (λ y. nat_lt c w && is_black s.cut.value.bitmap (pos c -ℤ pos s.column) y) here)

-- an empty list of dropouts
no_dropout : (ds : List Dropout) (c r : ℕ) → true ≡ (length ds == 0) → is_among ds c r ≡ false
no_dropout [] c r none = refl
no_dropout (d ∷ ds) c r none = absurd (grind (arith, nat_tests, none))

pub no_dropout_painted : (bytes rows w : ℕ) (ds : List Dropout) (band : List ℕ) → true ≡ (length ds == 0)
    → IsBandBlackened bytes rows (λ r c. nat_lt c w && is_among ds c r) band band
no_dropout_painted bytes rows w ds band none =
    none_painted bytes rows w (is_among ds) band (λ c r. no_dropout ds c r none)

-- the pixels of all rows, painted over white ones
pub white_rows : (n i c len : ℕ) → column n (replicate len 0) i c ≡ false
white_rows n i c len = bit-replicate_zero len (8 * (n * i) + c)

pub are_rows : (f : Frame) (len : ℕ) (black : ℕ → ℕ → Bool) (bytes : List ℕ) → len ≡ stride f.width * f.height
    → IsBandBlackened (stride f.width) f.height (λ r c. nat_lt c f.width && black c r) (replicate len 0) bytes → AreRowsOf f bytes
are_rows f len black bytes whole painted = record {
  len = painted.len ∙ length-replicate len 0 ∙ whole;
  padding = λ r c below inside.
      twice_within (nat_lt c f.width) (column (stride f.width) (replicate len 0) r c) (black c r) (column (stride f.width) bytes r c)
      (white_rows (stride f.width) r c len) (painted.columns r c below inside);
}

pub they_show : (f : Frame) (len : ℕ) (black : ℕ → ℕ → Bool) (bytes : List ℕ) (c r : ℕ) → c < f.width → r < f.height
    → IsBandBlackened (stride f.width) f.height (λ r c. nat_lt c f.width && black c r) (replicate len 0) bytes
    → column (stride f.width) bytes r c ≡ black c r
they_show f len black bytes c r inside below painted =
    shown_within (nat_lt c f.width) (column (stride f.width) (replicate len 0) r c) (black c r) (column (stride f.width) bytes r c)
    (grind (arith, nat_tests, inside)) (white_rows (stride f.width) r c len) (painted.columns r c below (omega (arith, inside)))

-- some of the rows
pub column_in : (n : ℕ) (band : List ℕ) (i c : ℕ) → column n band i c ≡ (bit_at (slice_index band (n * i + c / 8)) (7 - c % 8) == 1)
column_in n band i c =
    let byte : (8 * (n * i) + c) / 8 ≡ n * i + c / 8 = omega arith in
    let place : (8 * (n * i) + c) % 8 ≡ c % 8 = omega arith in
    rw (byte, place) refl

pub column_cut : (n from count i c a k : ℕ) (bytes : List ℕ) → a ≡ n * from → k ≡ n * count → i < count → c < 8 * n
    → column n (take k (drop a bytes)) i c ≡ column n bytes (from + i) c
column_cut n from count i c a k bytes is_a is_k below inside =
    let ends : n * (i + 1) ≤ n * count = mul-le n (i + 1) n count (omega arith) (omega (arith, below)) in
    let low : n * i + c / 8 < k = omega (arith, ends, inside, is_k) in
    let at : a + (n * i + c / 8) ≡ n * (from + i) + c / 8 = omega (arith, is_a) in
    let same : slice_index (take k (drop a bytes)) (n * i + c / 8) ≡ slice_index bytes (n * (from + i) + c / 8) =
    get_or-take k (drop a bytes) (n * i + c / 8) 0 low ∙ get_or-drop a bytes (n * i + c / 8) 0 ∙ ap (slice_index bytes) at in
    column_in n (take k (drop a bytes)) i c ∙ ap (λ b. bit_at b (7 - c % 8) == 1) same ∙ sym (column_in n bytes (from + i) c)

-- rows from row `from` on end within all rows
pub rows_end : (n from count height : ℕ) (bytes : List ℕ) → length bytes ≡ n * height → from + count ≤ height
    → n * from + n * count ≤ length bytes
rows_end n from count height bytes whole within =
    let ends : n * (from + count) ≤ n * height = mul-le n (from + count) n height (omega arith) within in
    omega (arith, ends, whole)

-- the byte of a column
column_byte : (bytes : ℕ) (band : List ℕ) (i b k : ℕ) → k < 8
    → column bytes band i (8 * b + k) ≡ (bit_at (slice_index band (bytes * i + b)) (7 - k) == 1)
column_byte bytes band i b k small =
    let byte : (8 * (bytes * i) + (8 * b + k)) / 8 ≡ bytes * i + b = omega arith in
    let place : (8 * (bytes * i) + (8 * b + k)) % 8 ≡ k = omega arith in
    rw (byte, place) refl

-- bytes of whole rows are rows of a picture if their bits are its pixels
pub band_is : (w from count : ℕ) (black : ℕ → ℕ → Bool) (band : List ℕ) → length band ≡ stride w * count
    → ((i : ℕ) → i < length band → slice_index band i < 256)
    → ((i c : ℕ) → i < count → c < 8 * stride w → column (stride w) band i c ≡ (nat_lt c w && black c (from + i)))
    → band ≡ rows w black (stride w * from) (stride w * count)
band_is w from count black band whole bytes bits =
    let n = stride w in
    same_number_lists band (rows w black (n * from) (n * count)) (whole ∙ sym (length-rows w black (n * from) (n * count)))
    (λ at within.
    let inside : at < n * count = omega (arith, within, whole) in
    let some : 0 < n = elim (cases_lt 0 n) [
      | inl is ↦ is
      | inr none ↦ let all : n * count ≤ 0 * count = mul-le n count 0 count none (omega arith) in absurd (omega (arith, all, inside))
    ] in
    let i : ℕ = at / n in
    let b : ℕ = at % n in
    let low : b < n = mod_below at n some in
    let below : i < count = div_below at n count some (omega (arith, inside)) in
    let split : at / n * n + at % n ≡ at = div-add-mod' at n in
    let place : n * i + b ≡ at = omega (arith, split) in
    let byte : slice_index band at ≡ byte_of w black (from + i) b =
    byte_is (slice_index band at) (λ k. shows w black (from + i) (8 * b + k)) (bytes at within)
    (λ k small. rw place at (sym (column_byte n band i b k small)) ∙ bits i (8 * b + k) below (omega (arith, low, small))) in
    let here : n * from + at ≡ (from + i) * n + b = omega (arith, place) in
    let row : (n * from + at) / n ≡ from + i = rw here (div-mul-add (from + i) n b low) in
    let column : (n * from + at) % n ≡ b = rw here (mod-mul-add (from + i) n b low) in
    let same : byte_at w black (n * from + at) ≡ byte_of w black (from + i) b = rw (row, column) refl in
    byte ∙ sym (get_or-map-range_with_len (byte_at w black) (n * from) (n * count) at (n * from + at) 0 inside refl ∙ same))

-- rows of a picture among the bytes of all its rows
pub rows_cut : (w h r count : ℕ) (black : ℕ → ℕ → Bool) → r + count ≤ h
    → take (stride w * count) (drop (stride w * r) (rows w black 0 (stride w * h))) ≡ rows w black (stride w * r) (stride w * count)
rows_cut w h r count black within =
    let least : stride w * (r + count) ≤ stride w * h = mul-le (stride w) (r + count) (stride w) h (omega arith) (omega (arith, within)) in
    let rest : ℕ = stride w * h - stride w * r in
    let all : stride w * h ≡ stride w * r + rest = omega (arith, least) in
    let long : stride w * count ≤ rest = omega (arith, least) in
    rw all (ap (take (stride w * count)) (rows_after w black (stride w * r) rest)
    ∙ take-rows w black (stride w * r) rest (stride w * count) long)

-- a band has few bytes
pub band_few : (w h : ℕ) → stride w * min h (65536 / stride w) ≤ 65536
band_few w h =
    let split : 65536 / stride w * stride w + 65536 % stride w ≡ 65536 = div-add-mod' 65536 (stride w) in
    let rows : min h (65536 / stride w) ≤ 65536 / stride w = min-le_right h (65536 / stride w) in
    let bytes : stride w * min h (65536 / stride w) ≤ stride w * (65536 / stride w) =
    mul-le (stride w) (min h (65536 / stride w)) (stride w) (65536 / stride w) (omega arith) rows in
    omega (arith, bytes, split)

-- a band has some rows
pub band_some : (w h : ℕ) → 1 ≤ w → w ≤ width_limit → 1 ≤ h → 1 ≤ min h (65536 / stride w)
band_some w h some most high =
    let one : 1 ≤ 65536 / stride w = le-div 1 65536 (stride w) (omega (arith, some)) (omega (arith, most)) in
    omega (arith, one, high)
