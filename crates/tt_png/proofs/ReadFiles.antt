-- A reader finds the picture in its file.
use Rattle.std.proofs.Common.{◌≡◌, ℕ, zero, suc, ◌+◌, ◌*◌, ◌^◌, ◌<◌, ◌≤◌, Bool, if◌then◌else◌, List, [], ◌++◌, codes, drop, length, take, Option, Some, None, option_and_then, option_map, refl, ap, ap₂, sym, ◌∙◌, arith, length-drop, length-take-le, take_at, drop_at, take-append-drop, mul-suc, mul-zero, eq-eqb}
use Rattle.std.proofs.lemmas.List.{nil_from_length}
use Rattle.std.proofs.lemmas.Nat.{from_be_bytes-to_be_bytes_4}
use Rattle.std.specs.Int.{to_be_bytes, w32}
use Rattle.tt_core.specs.Bits.{stride}
use Rattle.tt_png.specs.Adler.{adler_32}
use Rattle.tt_png.specs.Blocks.{blocks_before_last, zlib_head}
use Rattle.tt_png.specs.Chunks.{chunk}
use Rattle.tt_png.specs.Laws.{FilesReadBack}
use Rattle.tt_png.specs.Png.{filtered, header_data, palette, png_text, rows_chunks}
use Rattle.tt_png.specs.Reading.{Picture, coloured, first_chunk, headed, picture_by, picture_of, stream_of, unfiltered, unpacked}
use Rattle.tt_png.proofs.Lengths.{length-filtered, length-png_text}
use Rattle.tt_png.proofs.ReadBlocks.{data_read}
use Rattle.tt_png.proofs.ReadChunks.{chunk_read, stream_read}

-- a reader finds the rows behind their filter types
rows_read : (bytes height : ℕ) (rows : List ℕ) → length rows ≡ bytes * height
    → unfiltered bytes height (filtered bytes height rows) ≡ Some rows
rows_read bytes zero rows whole =
    ap Some (sym (nil_from_length rows (whole ∙ mul-zero bytes)))
rows_read bytes (suc height) rows whole =
    let more = mul-suc bytes height in
    let later : List ℕ = filtered bytes height (drop bytes rows) in
    let long : length (take bytes rows) ≡ bytes = length-take-le bytes rows (omega (arith, whole, more)) in
    let left : length (drop bytes rows) ≡ bytes * height = omega (arith, length-drop bytes rows, whole, more) in
    ap₂ (λ (row rest : List ℕ). option_map (λ (others : List ℕ). row ++ others) (unfiltered bytes height rest))
    (take_at (take bytes rows) later bytes long) (drop_at (take bytes rows) later bytes long)
    ∙ ap (option_map (λ (others : List ℕ). take bytes rows ++ others)) (rows_read bytes height (drop bytes rows) left)
    ∙ ap Some (take-append-drop bytes rows)

picture_read : (width height : ℕ) (rows : List ℕ) → length rows ≡ stride width * height
    → picture_of width height palette (filtered (stride width) height rows)
    ≡ Some (record { width = width; height = height; colours = palette; rows = rows })
picture_read width height rows whole =
    let content = filtered (stride width) height rows in
    let made : Option (List ℕ) → Option Picture =
    option_map (λ (rs : List ℕ). record { width = width; height = height; colours = palette; rows = rs }) in
    let long = length-filtered (stride width) height rows whole in
    ap (λ (b : Bool). if b then made (unfiltered (stride width) height content) else None)
    (eq-eqb (length content) ((1 + stride width) * height) long)
    ∙ ap made (rows_read (stride width) height rows whole)

within : (n : ℕ) → n ≤ 65535 * blocks_before_last n + 65535
within n = omega arith

-- a reader finds the data in the chunks behind PLTE
image_read : (most : ℕ) (content : List ℕ) → blocks_before_last (length content) + 2 ≤ most
    → option_and_then (unpacked most) (stream_of most (rows_chunks content ++ chunk (codes "IEND") [])) ≡ Some content
image_read most content enough =
    let more = blocks_before_last (length content) in
    let sum : List ℕ = to_be_bytes w32 (adler_32 content) in
    ap (option_and_then (unpacked most))
    (stream_read 65535 more most zlib_head content sum (omega arith) enough (omega arith) refl (within (length content)))
    ∙ data_read 65535 more most content (omega arith) (omega (arith, enough)) (within (length content))

coloured_read : (most width height : ℕ) (rows : List ℕ) → length rows ≡ stride width * height
    → blocks_before_last (length (filtered (stride width) height rows)) + 2 ≤ most
    → option_and_then (coloured most width height)
    (first_chunk (chunk (codes "PLTE") palette ++ (rows_chunks (filtered (stride width) height rows) ++ chunk (codes "IEND") [])))
    ≡ Some (record { width = width; height = height; colours = palette; rows = rows })
coloured_read most width height rows whole enough =
    let content = filtered (stride width) height rows in
    let rest : List ℕ = rows_chunks content ++ chunk (codes "IEND") [] in
    ap (option_and_then (coloured most width height)) (chunk_read 0x50 0x4C 0x54 0x45 palette rest (omega arith))
    ∙ ap (option_and_then (picture_of width height palette)) (image_read most content enough)
    ∙ picture_read width height rows whole

headed_read : (most width height : ℕ) (rest : List ℕ) → width < 2 ^ 32 → height < 2 ^ 32
    → option_and_then (headed most) (first_chunk (chunk (codes "IHDR") (header_data width height) ++ rest))
    ≡ option_and_then (coloured most width height) (first_chunk rest)
headed_read most width height rest wide high =
    ap (option_and_then (headed most)) (chunk_read 0x49 0x48 0x44 0x52 (header_data width height) rest (omega arith))
    ∙ ap₂ (λ (w h : ℕ). option_and_then (coloured most w h) (first_chunk rest))
    (from_be_bytes-to_be_bytes_4 width wide) (from_be_bytes-to_be_bytes_4 height high)

file_read : (most width height : ℕ) (rows : List ℕ) → width < 2 ^ 32 → height < 2 ^ 32 → length rows ≡ stride width * height
    → blocks_before_last (length (filtered (stride width) height rows)) + 2 ≤ most
    → picture_by most (png_text width height rows)
    ≡ Some (record { width = width; height = height; colours = palette; rows = rows })
unfolding png_text
file_read most width height rows wide high whole enough =
    let image : List ℕ = rows_chunks (filtered (stride width) height rows) ++ chunk (codes "IEND") [] in
    headed_read most width height (chunk (codes "PLTE") palette ++ image) wide high
    ∙ coloured_read most width height rows whole enough

pub files : FilesReadBack
files width height rows wide high whole =
    file_read (length (png_text width height rows)) width height rows wide high whole
    (omega (arith, length-png_text width height rows))
