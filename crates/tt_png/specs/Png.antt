-- RFC 2083, "PNG Specification", version 1.0: a black and white picture as a file. The bits of its rows are those of
-- Netpbm's format P4, and are numbers of two colours of a palette (profile).
use Rattle.std.specs.Prelude.{◌≡◌, refl, ℕ, zero, suc, ◌+◌, ◌*◌, List, [], ◌∷◌, ◌++◌, codes, drop, take}
use Rattle.std.specs.Int.{to_be_bytes, w32}
use Rattle.tt_core.specs.Bits.{stride}
use Rattle.tt_png.specs.Adler.{adler_32}
use Rattle.tt_png.specs.Blocks.{blocks_before_last, image_chunks}
use Rattle.tt_png.specs.Chunks.{chunk}
use Rattle.tt_png.specs.Crc.{after_bits, crc_32}

-- 3.1: the first bytes of each file
abbrev pub signature : List ℕ
signature = 0x89 ∷ 0x50 ∷ 0x4E ∷ 0x47 ∷ 0x0D ∷ 0x0A ∷ 0x1A ∷ 0x0A ∷ []

-- 4.1.1: one bit a pixel, numbers of a palette's colours, deflate, filters by row, and not interlaced
abbrev pub header_data : ℕ → ℕ → List ℕ
header_data width height = to_be_bytes w32 width ++ (to_be_bytes w32 height ++ 1 ∷ 3 ∷ 0 ∷ 0 ∷ 0 ∷ [])

-- 4.1.2: red, green and blue of a bit 0, which is white, and of a bit 1, which is black
abbrev pub palette : List ℕ
palette = 0xFF ∷ 0xFF ∷ 0xFF ∷ 0x00 ∷ 0x00 ∷ 0x00 ∷ []

-- 6.2: rows of so many bytes, each behind the type of its filter: 0, which changes nothing
abbrev pub filtered : ℕ → ℕ → List ℕ → List ℕ
filtered bytes zero rows = []
filtered bytes (suc height) rows = 0 ∷ (take bytes rows ++ filtered bytes height (drop bytes rows))

-- the chunks of filtered rows
abbrev pub rows_chunks : List ℕ → List ℕ
rows_chunks content = image_chunks content (to_be_bytes w32 (adler_32 content))

-- 3.5: the file of a picture
unfoldable pub png_text : ℕ → ℕ → List ℕ → List ℕ
png_text width height rows =
    signature ++ (chunk (codes "IHDR") (header_data width height) ++ (chunk (codes "PLTE") palette
    ++ (rows_chunks (filtered (stride width) height rows) ++ chunk (codes "IEND") [])))

-- the length of a file with n bytes of rows and filter types: the signature, IHDR, PLTE and IEND, the bytes in the
-- format of zlib before the blocks and behind them, the data, and 17 bytes a block
abbrev pub length_by : ℕ → ℕ
length_by n = 8 + 25 + 18 + 12 + 2 + 4 + n + 17 * (blocks_before_last n + 1)

-- the length of a picture's file
abbrev pub png_length : ℕ → ℕ → ℕ
png_length width height = length_by ((1 + stride width) * height)

-- worked values: a black pixel, two rows of a white pixel, and the length of a label's file
a_black_pixel : png_text 1 1 (0x80 ∷ [])
    ≡ 0x89 ∷ 0x50 ∷ 0x4E ∷ 0x47 ∷ 0x0D ∷ 0x0A ∷ 0x1A ∷ 0x0A
    ∷ 0 ∷ 0 ∷ 0 ∷ 13 ∷ 0x49 ∷ 0x48 ∷ 0x44 ∷ 0x52 ∷ 0 ∷ 0 ∷ 0 ∷ 1 ∷ 0 ∷ 0 ∷ 0 ∷ 1 ∷ 1 ∷ 3 ∷ 0 ∷ 0 ∷ 0
    ∷ 0x25 ∷ 0xDB ∷ 0x56 ∷ 0xCA
    ∷ 0 ∷ 0 ∷ 0 ∷ 6 ∷ 0x50 ∷ 0x4C ∷ 0x54 ∷ 0x45 ∷ 0xFF ∷ 0xFF ∷ 0xFF ∷ 0 ∷ 0 ∷ 0 ∷ 0x55 ∷ 0xC2 ∷ 0xD3 ∷ 0x7E
    ∷ 0 ∷ 0 ∷ 0 ∷ 13 ∷ 0x49 ∷ 0x44 ∷ 0x41 ∷ 0x54 ∷ 0x78 ∷ 0x01 ∷ 1 ∷ 2 ∷ 0 ∷ 0xFD ∷ 0xFF ∷ 0 ∷ 0x80
    ∷ 0x00 ∷ 0x82 ∷ 0x00 ∷ 0x81 ∷ 0xC3 ∷ 0x6E ∷ 0x25 ∷ 0xE0
    ∷ 0 ∷ 0 ∷ 0 ∷ 0 ∷ 0x49 ∷ 0x45 ∷ 0x4E ∷ 0x44 ∷ 0xAE ∷ 0x42 ∷ 0x60 ∷ 0x82 ∷ []
unfolding png_text chunk crc_32 after_bits
a_black_pixel = refl

two_white_pixels : filtered 1 2 (0 ∷ 0 ∷ []) ≡ 0 ∷ 0 ∷ 0 ∷ 0 ∷ []
two_white_pixels = refl

a_label : png_length 384 200 ≡ 9886
a_label = refl
