-- RFC 2083, RFC 1950 and RFC 1951: the picture that a reader finds in a file, where the data are in stored blocks. The
-- reader tests the CRC-32 of each chunk, both lengths of each block, and Adler-32. None: the file breaks a rule.
use Rattle.std.specs.Prelude.{◌≡◌, refl, ℕ, zero, suc, ◌+◌, ◌-◌, ◌*◌, ◌/◌, ◌%◌, ◌==◌, ◌&&◌, nat_le, Bool, List, [], ◌∷◌, ◌++◌, codes, bytes_eq, drop, length, take, slice_index, Option, Some, None, if◌then◌else◌, option_and_then, option_map}
use Rattle.std.specs.Int.{from_be_bytes, from_le_bytes, w16, w32}
use Rattle.tt_core.specs.Bits.{stride}
use Rattle.tt_png.specs.Adler.{adler_32}
use Rattle.tt_png.specs.Chunks.{chunk}
use Rattle.tt_png.specs.Crc.{after_bits, crc_32}
use Rattle.tt_png.specs.Png.{palette, png_text, signature}

-- RFC 2083, 3.2: a chunk, and the bytes behind it
pub record Chunk : Type 0 where
  pub kind : List ℕ
  pub content : List ℕ
  pub rest : List ℕ

-- a chunk by its type, its data and the bytes behind them, which begin with the CRC-32
abbrev pub checked_chunk : List ℕ → List ℕ → List ℕ → Option Chunk
checked_chunk kind content behind =
    if from_be_bytes w32 (take 4 behind) == crc_32 (kind ++ content)
    then Some (record { kind = kind; content = content; rest = drop 4 behind }) else None

-- a chunk by the length of its data, its type and the bytes behind them
abbrev pub chunk_by : ℕ → List ℕ → List ℕ → Option Chunk
chunk_by n kind behind = checked_chunk kind (take n behind) (drop n behind)

-- the first chunk of bytes
abbrev pub first_chunk : List ℕ → Option Chunk
first_chunk bytes = chunk_by (from_be_bytes w32 (take 4 bytes)) (take 4 (drop 4 bytes)) (drop 8 bytes)

-- RFC 2083, 4.1.3: the data of all IDAT up to IEND, of at most `most` chunks
abbrev pub stream_at : Chunk → Option (List ℕ) → Option (List ℕ)
stream_at c later =
    if bytes_eq c.kind (codes "IEND") then Some []
    else if bytes_eq c.kind (codes "IDAT") then option_map (λ (bytes : List ℕ). c.content ++ bytes) later else later

abbrev pub stream_of : ℕ → List ℕ → Option (List ℕ)
stream_of zero bytes = None
stream_of (suc most) bytes = option_and_then (λ (c : Chunk). stream_at c (stream_of most c.rest)) (first_chunk bytes)

-- RFC 1951, 3.2.4: a stored block, and the bytes behind it
pub record Block : Type 0 where
  pub last : ℕ
  pub content : List ℕ
  pub rest : List ℕ

-- a block by its length, the length with its bits turned, the flag of the last block, and the bytes behind these
abbrev pub block_by : ℕ → ℕ → ℕ → List ℕ → Option Block
block_by n turned last behind =
    if turned == 65535 - n then Some (record { last = last; content = take n behind; rest = drop n behind }) else None

-- the first block of bytes
abbrev pub first_block : List ℕ → Option Block
first_block bytes =
    block_by (from_le_bytes w16 (take 2 (drop 1 bytes))) (from_le_bytes w16 (take 2 (drop 3 bytes))) (slice_index bytes 0)
    (drop 5 bytes)

-- data of blocks, and the bytes behind the last
pub record Inflated : Type 0 where
  pub content : List ℕ
  pub rest : List ℕ

abbrev pub inflated_at : Block → Option Inflated → Option Inflated
inflated_at b later =
    if b.last == 1 then Some (record { content = b.content; rest = b.rest })
    else if b.last == 0 then option_map (λ (i : Inflated). record { content = b.content ++ i.content; rest = i.rest }) later else None

-- the data of at most `most` blocks
abbrev pub inflated : ℕ → List ℕ → Option Inflated
inflated zero bytes = None
inflated (suc most) bytes = option_and_then (λ (b : Block). inflated_at b (inflated most b.rest)) (first_block bytes)

-- RFC 1950, 2.2: the method is deflate, its window has at most 32,768 bytes, no dictionary is preset, and both bytes are a
-- multiple of 31
abbrev pub is_zlib : ℕ → ℕ → Bool
is_zlib method flags =
    method % 16 == 8 && (nat_le (method / 16) 7 && (flags / 32 % 2 == 0 && (method * 256 + flags) % 31 == 0))

-- the data with their Adler-32 behind them
abbrev pub summed : Inflated → Option (List ℕ)
summed i = if from_be_bytes w32 (take 4 i.rest) == adler_32 i.content then Some i.content else None

-- the data in the format of zlib
abbrev pub unpacked : ℕ → List ℕ → Option (List ℕ)
unpacked most stream =
    if is_zlib (slice_index stream 0) (slice_index stream 1)
    then option_and_then summed (inflated most (drop 2 stream)) else None

-- RFC 2083, 6.2: the rows of so many bytes behind their filter types, which are all 0
abbrev pub unfiltered : ℕ → ℕ → List ℕ → Option (List ℕ)
unfiltered bytes zero content = Some []
unfiltered bytes (suc height) content =
    if slice_index content 0 == 0
    then option_map (λ (rows : List ℕ). take bytes (drop 1 content) ++ rows) (unfiltered bytes height (drop bytes (drop 1 content))) else None

-- RFC 2083, 4.1.1: a picture with one bit a pixel. A bit is the number of its colour
pub record Picture : Type 0 where
  pub width : ℕ
  pub height : ℕ
  pub colours : List ℕ
  pub rows : List ℕ

-- a picture by its size, its colours and its data
abbrev pub picture_of : ℕ → ℕ → List ℕ → List ℕ → Option Picture
picture_of width height colours content =
    if length content == (1 + stride width) * height
    then option_map (λ (rows : List ℕ). record { width = width; height = height; colours = colours; rows = rows }) (unfiltered (stride width) height content)
    else None

-- a picture by its size and its chunk PLTE
abbrev pub coloured : ℕ → ℕ → ℕ → Chunk → Option Picture
coloured most width height c =
    if bytes_eq c.kind (codes "PLTE")
    then option_and_then (picture_of width height c.content) (option_and_then (unpacked most) (stream_of most c.rest))
    else None

-- a picture by its chunk IHDR
abbrev pub headed : ℕ → Chunk → Option Picture
headed most c =
    if bytes_eq c.kind (codes "IHDR") && bytes_eq (drop 8 c.content) (1 ∷ 3 ∷ 0 ∷ 0 ∷ 0 ∷ [])
    then option_and_then (coloured most (from_be_bytes w32 (take 4 c.content)) (from_be_bytes w32 (take 4 (drop 4 c.content))))
    (first_chunk c.rest)
    else None

-- the picture of a file of at most `most` chunks and blocks
abbrev pub picture_by : ℕ → List ℕ → Option Picture
picture_by most file =
    if bytes_eq (take 8 file) signature then option_and_then (headed most) (first_chunk (drop 8 file)) else None

-- the picture of a file, which has no more chunks and blocks than bytes
abbrev pub picture_in : List ℕ → Option Picture
picture_in file = picture_by (length file) file

-- worked value: a black pixel
a_black_pixel : picture_in (png_text 1 1 (0x80 ∷ []))
    ≡ Some (record { width = 1; height = 1; colours = palette; rows = 0x80 ∷ [] })
unfolding png_text chunk crc_32 after_bits
a_black_pixel = refl
