-- A chunk at the end of a file, from its parts.
use Rattle.std.proofs.Common.{◌≡◌, ℕ, ◌+◌, List, ◌++◌, drop, length, ap, sym, ◌∙◌, arith, append_assoc, length-append, drop_at}
use Rattle.std.specs.Int.{to_be_bytes, w32}
use Rattle.tt_png.specs.Chunks.{chunk}
use Rattle.tt_png.specs.Crc.{crc_32}

-- a chunk that is begun, its data, and the CRC-32 of its type and its data
pub ended : (old kind content begun whole : List ℕ) (n at : ℕ) → n ≡ length content → at ≡ length old + 4
    → begun ≡ old ++ (to_be_bytes w32 n ++ kind) → whole ≡ begun ++ content
    → whole ++ to_be_bytes w32 (crc_32 (drop at whole)) ≡ old ++ chunk kind content
unfolding chunk
ended old kind content begun whole n at many place is more =
    let head : List ℕ = old ++ to_be_bytes w32 n in
    let split : whole ≡ head ++ (kind ++ content) =
    more ∙ ap (λ (xs : List ℕ). xs ++ content) is ∙ append_assoc old (to_be_bytes w32 n ++ kind) content
    ∙ sym (append_assoc old (to_be_bytes w32 n) (kind ++ content)) in
    let front : length head ≡ at = omega (arith, length-append old (to_be_bytes w32 n), place) in
    let behind : drop at whole ≡ kind ++ content = ap (drop at) split ∙ drop_at head (kind ++ content) at front in
    let crc : List ℕ = to_be_bytes w32 (crc_32 (kind ++ content)) in
    ap (λ (xs : List ℕ). whole ++ to_be_bytes w32 (crc_32 xs)) behind ∙ ap (λ (xs : List ℕ). xs ++ crc) split
    ∙ append_assoc head (kind ++ content) crc
    ∙ ap (λ (xs : List ℕ). head ++ xs) (append_assoc kind content crc)
    ∙ append_assoc old (to_be_bytes w32 n) (kind ++ (content ++ crc))
    ∙ ap (λ (k : ℕ). old ++ (to_be_bytes w32 k ++ (kind ++ (content ++ crc)))) many
