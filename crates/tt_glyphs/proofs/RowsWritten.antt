-- The rows of drawn glyphs, written one behind the other into a room.
use Rattle.std.proofs.Common.{◌≡◌, ◌∙◌, refl, sym, ap, ap₂, ℕ, ◌+◌, ◌<◌, ◌≤◌, List, [], ◌∷◌, ◌++◌, append_assoc, append-nil, drop, get_or, length, take, Option, None, Some, arith}
use Rattle.std.specs.List.{flat_map, sum_by}
use Rattle.std.proofs.lemmas.List.{take-append-drop, take_more}
use Rattle.std.proofs.lemmas.List.Sums.{sum_by-append, sum_by_push}
use Rattle.std.proofs.lemmas.Slice.{take-put_mid}
use Rattle.tt_picture.proofs.RowBytes.{length-rows}
use Rattle.tt_glyphs.specs.Bitmaps.{place_bytes}
use Rattle.tt_glyphs.specs.declared.drawing.DrawnGlyph.{DrawnGlyph}
use Rattle.tt_glyphs.specs.declared.told.Told.{Told}
use Rattle.tt_glyphs.specs.declared.written.GlyphRows.{GlyphRows}
use Rattle.tt_glyphs.specs.declared.written.GlyphRows.TheVariants as made
use Rattle.tt_glyphs.specs.Drawn.{DrawnFits, HasBitmap, drawn_rows, large_pixel, place_by, rows_by, small_pixel, some_rows}
use Rattle.tt_glyphs.specs.Entries.{told_bytes}
use borrow.Rule.Slice.PartMut.{put_mid}

abbrev pub bytes_of : DrawnGlyph → ℕ
bytes_of d = told_bytes d.told

-- a drawn glyph has as many bytes of rows as its report tells
length_rows : (b : GlyphRows) → length (rows_by b) ≡ place_bytes (place_by b)
length_rows (made.Small b) = length-rows b.place.width (small_pixel b) 0 (place_bytes b.place)
length_rows (made.Large b) = length-rows b.place.width (large_pixel b) 0 (place_bytes b.place)

length_by : (t : Told) (b : Option GlyphRows) → HasBitmap t b → length (some_rows b) ≡ told_bytes t
length_by t None has = sym has
length_by t (Some b) has = length_rows b ∙ sym has.1

pub drawn_length : (d : DrawnGlyph) → DrawnFits d → length (drawn_rows d) ≡ bytes_of d
drawn_length d fits = length_by d.told d.bitmap fits.bitmap

-- the bytes so far, and those of one glyph more
pub next_bytes : (ds : List DrawnGlyph) (i : ℕ) (d : DrawnGlyph) → i < length ds
    → sum_by bytes_of (take (i + 1) ds) ≡ sum_by bytes_of (take i ds) + bytes_of (get_or ds i d)
next_bytes ds i d below =
    ap (sum_by bytes_of) (take_more ds i d below) ∙ sum_by_push bytes_of (take i ds) (get_or ds i d)

pub bytes_within : (ds : List DrawnGlyph) (i : ℕ) (d : DrawnGlyph) → i < length ds
    → sum_by bytes_of (take i ds) + bytes_of (get_or ds i d) ≤ sum_by bytes_of ds
bytes_within ds i d below =
    let next = next_bytes ds i d below in
    let whole : sum_by bytes_of (take (i + 1) ds ++ drop (i + 1) ds) ≡ sum_by bytes_of ds =
    ap (sum_by bytes_of) (take-append-drop (i + 1) ds) in
    let parts = sum_by-append bytes_of (take (i + 1) ds) (drop (i + 1) ds) in
    omega (arith, next, whole, parts)

rows_push : (ds : List DrawnGlyph) (d : DrawnGlyph) → flat_map drawn_rows (ds ++ d ∷ []) ≡ flat_map drawn_rows ds ++ drawn_rows d
rows_push [] d = append-nil (drawn_rows d)
rows_push (e ∷ ds) d =
    ap (λ (bytes : List ℕ). drawn_rows e ++ bytes) (rows_push ds d)
    ∙ sym (append_assoc (drawn_rows e) (flat_map drawn_rows ds) (drawn_rows d))

-- the rows so far, and those of one glyph more
pub next_rows : (ds : List DrawnGlyph) (i at k : ℕ) (d : DrawnGlyph) (room row : List ℕ) → i < length ds → at ≤ length room
    → take at room ≡ flat_map drawn_rows (take i ds) → row ≡ drawn_rows (get_or ds i d)
    → take (at + length row) (put_mid at k room row) ≡ flat_map drawn_rows (take (i + 1) ds)
next_rows ds i at k d room row below within so_far is =
    take-put_mid at k room row (at + length row) refl within
    ∙ ap₂ (λ (a b : List ℕ). a ++ b) so_far is
    ∙ sym (ap (flat_map drawn_rows) (take_more ds i d below) ∙ rows_push (take i ds) (get_or ds i d))
