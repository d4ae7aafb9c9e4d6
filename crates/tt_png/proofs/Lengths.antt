-- The length of a file.
use Rattle.std.proofs.Common.{◌≡◌, ℕ, zero, suc, ◌+◌, ◌*◌, List, [], ◌++◌, codes, drop, length, take, refl, ap, sym, ◌∙◌, arith, length-append, length-drop, length-take-le, mul-suc, mul-zero, take-append-drop}
use Rattle.std.specs.Int.{to_be_bytes, w32}
use Rattle.tt_core.specs.Bits.{stride}
use Rattle.tt_png.specs.Adler.{adler_32}
use Rattle.tt_png.specs.Blocks.{blocks_before_last, chunks_by, stored, zlib_head}
use Rattle.tt_png.specs.Chunks.{chunk}
use Rattle.tt_png.specs.Crc.{crc_32}
use Rattle.tt_png.specs.Laws.{FilesHaveTheirLength}
use Rattle.tt_png.specs.Png.{filtered, header_data, length_by, palette, png_text, rows_chunks}

length-chunk : (kind content : List ℕ) → length kind ≡ 4 → length (chunk kind content) ≡ length content + 12
unfolding chunk
length-chunk kind content four =
    let crc : List ℕ = to_be_bytes w32 (crc_32 (kind ++ content)) in
    omega (arith, four, length-append kind (content ++ crc), length-append content crc)

length-block : (front block sum : List ℕ) (last : ℕ)
    → length (chunk (codes "IDAT") (front ++ (stored last block ++ sum))) ≡ length front + length block + length sum + 17
length-block front block sum last =
    omega (
      arith,
      length-chunk (codes "IDAT") (front ++ (stored last block ++ sum)) refl,
      length-append front (stored last block ++ sum),
      length-append block sum,
    )

length-block_before : (front block : List ℕ)
    → length (chunk (codes "IDAT") (front ++ stored 0 block)) ≡ length front + length block + 17
length-block_before front block =
    omega (arith, length-chunk (codes "IDAT") (front ++ stored 0 block) refl, length-append front (stored 0 block))

both : (size : ℕ) (content : List ℕ) → length (take size content) + length (drop size content) ≡ length content
both size content = sym (length-append (take size content) (drop size content)) ∙ ap length (take-append-drop size content)

length-chunks_by : (size more : ℕ) (front content sum : List ℕ)
    → length (chunks_by size more front content sum) ≡ length front + length content + length sum + 17 * (more + 1)
length-chunks_by size zero front content sum = omega (arith, length-block front content sum 1)
length-chunks_by size (suc more) front content sum =
    let here : List ℕ = chunk (codes "IDAT") (front ++ stored 0 (take size content)) in
    let later = length-chunks_by size more [] (drop size content) sum in
    omega (
      arith,
      length-append here (chunks_by size more [] (drop size content) sum),
      length-block_before front (take size content),
      later,
      both size content,
    )

pub length-filtered : (bytes height : ℕ) (rows : List ℕ) → length rows ≡ bytes * height
    → length (filtered bytes height rows) ≡ (1 + bytes) * height
length-filtered bytes zero rows whole = sym (mul-zero (1 + bytes))
length-filtered bytes (suc height) rows whole =
    let more = mul-suc bytes height in
    let row = length-take-le bytes rows (omega (arith, whole, more)) in
    let left : length (drop bytes rows) ≡ bytes * height = omega (arith, length-drop bytes rows, whole, more) in
    let later = length-filtered bytes height (drop bytes rows) left in
    omega (
      arith,
      length-append (take bytes rows) (filtered bytes height (drop bytes rows)),
      row,
      later,
      mul-suc (1 + bytes) height,
    )

four : (a b c d : List ℕ) → length (a ++ (b ++ (c ++ d))) ≡ length a + length b + length c + length d
four a b c d = omega (arith, length-append a (b ++ (c ++ d)), length-append b (c ++ d), length-append c d)

pub length-png_text : (width height : ℕ) (rows : List ℕ)
    → length (png_text width height rows) ≡ length_by (length (filtered (stride width) height rows))
unfolding png_text
length-png_text width height rows =
    let content = filtered (stride width) height rows in
    let header : List ℕ = chunk (codes "IHDR") (header_data width height) in
    let colours : List ℕ = chunk (codes "PLTE") palette in
    let end : List ℕ = chunk (codes "IEND") [] in
    let image = length-chunks_by 65535 (blocks_before_last (length content)) zlib_head content (to_be_bytes w32 (adler_32 content)) in
    omega (
      arith,
      four header colours (rows_chunks content) end,
      length-chunk (codes "IHDR") (header_data width height) refl,
      length-chunk (codes "PLTE") palette refl,
      image,
      length-chunk (codes "IEND") [] refl,
    )

pub lengths : FilesHaveTheirLength
lengths width height rows whole =
    length-png_text width height rows ∙ ap length_by (length-filtered (stride width) height rows whole)
