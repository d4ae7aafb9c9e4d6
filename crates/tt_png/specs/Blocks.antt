-- RFC 1950, "ZLIB Compressed Data Format Specification", and RFC 1951, "DEFLATE Compressed Data Format Specification",
-- section 3.2.4: data in stored blocks. RFC 2083, section 4.1.3: the chunks IDAT. A chunk has one block (profile).
use Rattle.std.specs.Prelude.{◌≡◌, refl, ℕ, zero, suc, ◌-◌, ◌/◌, List, [], ◌∷◌, ◌++◌, codes, drop, length, take}
use Rattle.std.specs.Int.{to_be_bytes, to_le_bytes, w16, w32}
use Rattle.tt_png.specs.Adler.{adler_32}
use Rattle.tt_png.specs.Chunks.{chunk}
use Rattle.tt_png.specs.Crc.{after_bits, crc_32}

-- the first bytes: deflate by a window of 32,768 bytes, and no preset dictionary
abbrev pub zlib_head : List ℕ
zlib_head = 0x78 ∷ 0x01 ∷ []

-- the head of a stored block of n bytes: 1 for the last block, else 0; n; and n with all its bits turned
abbrev pub stored_head : ℕ → ℕ → List ℕ
stored_head last n = last ∷ (to_le_bytes w16 n ++ to_le_bytes w16 (65535 - n))

-- a stored block
abbrev pub stored : ℕ → List ℕ → List ℕ
stored last bytes = stored_head last (length bytes) ++ bytes

-- the chunks of data in blocks of `size` bytes, `more` of them before the last. `front` is before the first block, and
-- `sum` behind the last
abbrev pub chunks_by : ℕ → ℕ → List ℕ → List ℕ → List ℕ → List ℕ
chunks_by size zero front content sum = chunk (codes "IDAT") (front ++ (stored 1 content ++ sum))
chunks_by size (suc more) front content sum =
    chunk (codes "IDAT") (front ++ stored 0 (take size content)) ++ chunks_by size more [] (drop size content) sum

-- the blocks before the last of n bytes
abbrev pub blocks_before_last : ℕ → ℕ
blocks_before_last n = (n - 1) / 65535

-- the chunks of data in blocks of 65,535 bytes, the most that a block holds
abbrev pub chunks_from : List ℕ → List ℕ → List ℕ → List ℕ
chunks_from front content sum = chunks_by 65535 (blocks_before_last (length content)) front content sum

-- the chunks of data with the bytes of their Adler-32
abbrev pub image_chunks : List ℕ → List ℕ → List ℕ
image_chunks content sum = chunks_from zlib_head content sum

-- worked values: three bytes in blocks of two
two_blocks : chunks_by 2 1 zlib_head (1 ∷ 2 ∷ 3 ∷ []) (to_be_bytes w32 (adler_32 (1 ∷ 2 ∷ 3 ∷ [])))
    ≡ 0 ∷ 0 ∷ 0 ∷ 9 ∷ 0x49 ∷ 0x44 ∷ 0x41 ∷ 0x54 ∷ 0x78 ∷ 0x01 ∷ 0 ∷ 2 ∷ 0 ∷ 0xFD ∷ 0xFF ∷ 1 ∷ 2
    ∷ 0x56 ∷ 0xA8 ∷ 0xDB ∷ 0xF1
    ∷ 0 ∷ 0 ∷ 0 ∷ 10 ∷ 0x49 ∷ 0x44 ∷ 0x41 ∷ 0x54 ∷ 1 ∷ 1 ∷ 0 ∷ 0xFE ∷ 0xFF ∷ 3 ∷ 0x00 ∷ 0x0D ∷ 0x00 ∷ 0x07
    ∷ 0xD9 ∷ 0xE1 ∷ 0x36 ∷ 0x67 ∷ []
unfolding chunk crc_32 after_bits
two_blocks = refl

-- a whole block, and a byte more
a_whole_block : blocks_before_last 65535 ≡ 0
a_whole_block = refl

a_byte_more : blocks_before_last 65536 ≡ 1
a_byte_more = refl
