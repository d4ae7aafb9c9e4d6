-- RFC 2083, "PNG Specification", section 3.2: chunks. Numbers have their highest byte first.
use Rattle.std.specs.Prelude.{◌≡◌, refl, List, ℕ, [], ◌∷◌, ◌++◌, codes, length}
use Rattle.std.specs.Int.{to_be_bytes, w32}
use Rattle.tt_png.specs.Crc.{after_bits, crc_32}

-- a chunk: the length of its data, its type, the data, and the CRC-32 of type and data
unfoldable pub chunk : List ℕ → List ℕ → List ℕ
chunk kind content = to_be_bytes w32 (length content) ++ (kind ++ (content ++ to_be_bytes w32 (crc_32 (kind ++ content))))

-- worked value: the last chunk
an_end : chunk (codes "IEND") [] ≡ 0 ∷ 0 ∷ 0 ∷ 0 ∷ 0x49 ∷ 0x45 ∷ 0x4E ∷ 0x44 ∷ 0xAE ∷ 0x42 ∷ 0x60 ∷ 0x82 ∷ []
unfolding chunk crc_32 after_bits
an_end = refl
