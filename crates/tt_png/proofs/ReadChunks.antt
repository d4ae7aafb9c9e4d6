-- A reader finds the chunks of a file.
use Rattle.std.proofs.Common.{◌≡◌, ℕ, zero, suc, ◌+◌, ◌*◌, ◌^◌, ◌<◌, ◌≤◌, ◌==◌, Bool, if◌then◌else◌, List, [], ◌∷◌, ◌++◌, codes, drop, length, take, Option, Some, None, option_and_then, option_map, refl, ap, ap₂, sym, ◌∙◌, arith, append_assoc, append-nil, length-append, length-drop, length-take, take_at, drop_at, mul-suc, eq-eqb}
use Rattle.std.proofs.lemmas.Nat.{from_be_bytes-to_be_bytes_4}
use Rattle.std.specs.Int.{to_be_bytes, w32}
use Rattle.tt_png.specs.Blocks.{chunks_by, stored}
use Rattle.tt_png.specs.Chunks.{chunk}
use Rattle.tt_png.specs.Crc.{crc_32}
use Rattle.tt_png.specs.Reading.{Chunk, checked_chunk, chunk_by, first_chunk, stream_at, stream_of}

crc-fits : (bytes : List ℕ) → crc_32 bytes < 2 ^ 32
unfolding crc_32
crc-fits bytes = omega arith

-- a reader finds a chunk at the front of bytes
pub chunk_read : (p q r s : ℕ) (content rest : List ℕ) → length content < 2 ^ 32
    → first_chunk (chunk (p ∷ q ∷ r ∷ s ∷ []) content ++ rest) ≡ Some (record { kind = p ∷ q ∷ r ∷ s ∷ []; content = content; rest = rest })
unfolding chunk
chunk_read p q r s content rest small =
    let kind : List ℕ = p ∷ q ∷ r ∷ s ∷ [] in
    let n = length content in
    let crc = crc_32 (kind ++ content) in
    let sum : List ℕ = to_be_bytes w32 crc in
    let found : Option Chunk = Some (record { kind = kind; content = content; rest = rest }) in
    ap (λ (k : ℕ). chunk_by k kind ((content ++ sum) ++ rest)) (from_be_bytes-to_be_bytes_4 n small)
    ∙ ap (chunk_by n kind) (append_assoc content sum rest)
    ∙ ap₂ (checked_chunk kind) (take_at content (sum ++ rest) n refl) (drop_at content (sum ++ rest) n refl)
    ∙ ap (λ (k : ℕ). if k == crc then found else None) (from_be_bytes-to_be_bytes_4 crc (crc-fits (kind ++ content)))
    ∙ ap (λ (b : Bool). if b then found else None) (eq-eqb crc crc refl)

-- the bytes of all blocks in the format of zlib
abbrev pub stream_by : ℕ → ℕ → List ℕ → List ℕ → List ℕ → List ℕ
stream_by size zero front content sum = front ++ (stored 1 content ++ sum)
stream_by size (suc more) front content sum =
    (front ++ stored 0 (take size content)) ++ stream_by size more [] (drop size content) sum

ended : (most : ℕ) → 1 ≤ most → stream_of most (chunk (codes "IEND") []) ≡ Some []
ended zero some = absurd (omega (arith, some))
ended (suc most) some =
    ap (stream_of (suc most)) (sym (append-nil (chunk (codes "IEND") [])))
    ∙ ap (option_and_then (λ (c : Chunk). stream_at c (stream_of most c.rest))) (chunk_read 0x49 0x45 0x4E 0x44 [] [] (omega arith))

one_more : (most : ℕ) (content rest : List ℕ) → length content < 2 ^ 32
    → stream_of (suc most) (chunk (codes "IDAT") content ++ rest) ≡ option_map (λ (bytes : List ℕ). content ++ bytes) (stream_of most rest)
one_more most content rest small =
    ap (option_and_then (λ (c : Chunk). stream_at c (stream_of most c.rest))) (chunk_read 0x49 0x44 0x41 0x54 content rest small)

few : (size : ℕ) (content : List ℕ) → size ≤ 65535 → length (take size content) ≤ 65535
few size content limit = omega (arith, length-take size content, limit)

-- a reader finds the bytes of all blocks
pub stream_read : (size more most : ℕ) (front content sum : List ℕ) → size ≤ 65535 → more + 2 ≤ most → length front ≤ 2
    → length sum ≡ 4 → length content ≤ size * more + size
    → stream_of most (chunks_by size more front content sum ++ chunk (codes "IEND") []) ≡ Some (stream_by size more front content sum)
stream_read size more zero front content sum limit enough short four within = absurd (omega (arith, enough))
stream_read size zero (suc most) front content sum limit enough short four within =
    let block : List ℕ = front ++ (stored 1 content ++ sum) in
    let less : length block < 2 ^ 32 = omega
    (arith, length-append front (stored 1 content ++ sum), length-append content sum, limit, short, four, within) in
    one_more most block (chunk (codes "IEND") []) less
    ∙ ap (option_map (λ (bytes : List ℕ). block ++ bytes)) (ended most (omega (arith, enough)))
    ∙ ap Some (append-nil block)
stream_read size (suc more) (suc most) front content sum limit enough short four within =
    let block : List ℕ = front ++ stored 0 (take size content) in
    let end : List ℕ = chunk (codes "IEND") [] in
    let later : List ℕ = chunks_by size more [] (drop size content) sum in
    let less : length block < 2 ^ 32 = omega
    (arith, length-append front (stored 0 (take size content)), few size content limit, short) in
    let left : length (drop size content) ≤ size * more + size = omega
    (arith, length-drop size content, mul-suc size more, within) in
    ap (stream_of (suc most)) (append_assoc (chunk (codes "IDAT") block) later end)
    ∙ one_more most block (later ++ end) less
    ∙ ap (option_map (λ (bytes : List ℕ). block ++ bytes))
    (stream_read size more most [] (drop size content) sum limit (omega (arith, enough)) (omega arith) four left)
