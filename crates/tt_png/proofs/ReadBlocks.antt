-- A reader finds the data of stored blocks.
use Rattle.std.proofs.Common.{◌≡◌, ℕ, zero, suc, ◌+◌, ◌-◌, ◌*◌, ◌^◌, ◌<◌, ◌≤◌, ◌==◌, Bool, if◌then◌else◌, List, [], ◌∷◌, ◌++◌, drop, length, take, Option, Some, None, option_and_then, option_map, refl, ap, ap₂, ◌∙◌, arith, length-drop, length-take, take_at, drop_at, take-append-drop, mul-suc, eq-eqb}
use Rattle.std.proofs.lemmas.Nat.{from_be_bytes-to_be_bytes_4, from_le_bytes-to_le_bytes_2}
use Rattle.std.specs.Int.{to_be_bytes, w32}
use Rattle.tt_png.specs.Adler.{adler_32, adler_from}
use Rattle.tt_png.specs.Blocks.{stored, zlib_head}
use Rattle.tt_png.specs.Reading.{Block, Inflated, block_by, first_block, inflated, inflated_at, summed, unpacked}
use Rattle.tt_png.proofs.ReadChunks.{stream_by}

-- a reader finds a block at the front of bytes
block_read : (last : ℕ) (content rest : List ℕ) → length content ≤ 65535
    → first_block (stored last content ++ rest) ≡ Some (record { last = last; content = content; rest = rest })
block_read last content rest small =
    let n = length content in
    let made : List ℕ → List ℕ → Option Block = λ xs ys. Some (record { last = last; content = xs; rest = ys }) in
    let there : Option Block = made (take n (content ++ rest)) (drop n (content ++ rest)) in
    ap₂ (λ (k j : ℕ). block_by k j last (content ++ rest)) (from_le_bytes-to_le_bytes_2 n (omega (arith, small)))
    (from_le_bytes-to_le_bytes_2 (65535 - n) (omega arith))
    ∙ ap (λ (b : Bool). if b then there else None) (eq-eqb (65535 - n) (65535 - n) refl)
    ∙ ap₂ made (take_at content rest n refl) (drop_at content rest n refl)

-- a reader finds the data of all blocks
blocks_read : (size more most : ℕ) (content sum : List ℕ) → size ≤ 65535 → more + 1 ≤ most → length content ≤ size * more + size
    → inflated most (stream_by size more [] content sum) ≡ Some (record { content = content; rest = sum })
blocks_read size more zero content sum limit enough within = absurd (omega (arith, enough))
blocks_read size zero (suc most) content sum limit enough within =
    ap (option_and_then (λ (b : Block). inflated_at b (inflated most b.rest))) (block_read 1 content sum (omega (arith, limit, within)))
blocks_read size (suc more) (suc most) content sum limit enough within =
    let made : List ℕ → Option Inflated = λ xs. Some (record { content = xs; rest = sum }) in
    let later : List ℕ = stream_by size more [] (drop size content) sum in
    let left : length (drop size content) ≤ size * more + size = omega
    (arith, length-drop size content, mul-suc size more, within) in
    let small : length (take size content) ≤ 65535 = omega (arith, length-take size content, limit) in
    ap (option_and_then (λ (b : Block). inflated_at b (inflated most b.rest))) (block_read 0 (take size content) later small)
    ∙ ap (option_map (λ (i : Inflated). record { content = take size content ++ i.content; rest = i.rest }))
    (blocks_read size more most (drop size content) sum limit (omega (arith, enough)) left)
    ∙ ap made (take-append-drop size content)

adler-fits : (first second : ℕ) (bytes : List ℕ) → adler_from first second bytes < 2 ^ 32
adler-fits first second [] = omega arith
adler-fits first second (byte ∷ bytes) = adler-fits (first + byte) (second + (first + byte)) bytes

front_apart : (size more : ℕ) (content sum : List ℕ)
    → stream_by size more zlib_head content sum ≡ zlib_head ++ stream_by size more [] content sum
front_apart size zero content sum = refl
front_apart size (suc more) content sum = refl

-- a reader finds the data in the format of zlib
pub data_read : (size more most : ℕ) (content : List ℕ) → size ≤ 65535 → more + 1 ≤ most → length content ≤ size * more + size
    → unpacked most (stream_by size more zlib_head content (to_be_bytes w32 (adler_32 content))) ≡ Some content
data_read size more most content limit enough within =
    let value = adler_32 content in
    let sum : List ℕ = to_be_bytes w32 value in
    ap (unpacked most) (front_apart size more content sum)
    ∙ ap (option_and_then summed) (blocks_read size more most content sum limit enough within)
    ∙ ap (λ (k : ℕ). if k == value then Some content else None) (from_be_bytes-to_be_bytes_4 value (adler-fits 1 0 content))
    ∙ ap (λ (b : Bool). if b then Some content else None) (eq-eqb value value refl)
