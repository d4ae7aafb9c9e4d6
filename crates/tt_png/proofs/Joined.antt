-- The chunks of data, block after block.
use Rattle.std.proofs.Common.{◌≡◌, ℕ, suc, ◌+◌, ◌-◌, ◌<◌, ◌≤◌, List, [], ◌++◌, codes, drop, length, take, ap, sym, ◌∙◌, arith, append_assoc, append-nil, length-append, length-drop}
use Rattle.tt_png.specs.Blocks.{blocks_before_last, chunks_by, chunks_from, stored, stored_head}
use Rattle.tt_png.specs.Chunks.{chunk}

-- the length of a block's chunk
pub many : (front block sum : List ℕ) (last : ℕ)
    → length front + 5 + length block + length sum ≡ length (front ++ (stored last block ++ sum))
many front block sum last =
    omega (arith, length-append front (stored last block ++ sum), length-append block sum)

-- the parts of a block's chunk in sequence
pub parts : (begun front block sum : List ℕ) (last : ℕ)
    → (((begun ++ front) ++ stored_head last (length block)) ++ block) ++ sum ≡ begun ++ (front ++ (stored last block ++ sum))
parts begun front block sum last =
    append_assoc ((begun ++ front) ++ stored_head last (length block)) block sum
    ∙ append_assoc (begun ++ front) (stored_head last (length block)) (block ++ sum)
    ∙ append_assoc begun front (stored_head last (length block) ++ (block ++ sum))

fewer : (n m : ℕ) → 65535 < n → m ≡ n - 65535 → blocks_before_last n ≡ suc (blocks_before_last m)
fewer n m long is = omega (arith, long, is)

none : (n : ℕ) → n ≤ 65535 → blocks_before_last n ≡ 0
none n short = omega (arith, short)

-- the chunk of a block before the last, and the chunks of the rest
pub block_more : (before front rest sum : List ℕ) → 65535 < length rest
    → (before ++ chunk (codes "IDAT") (front ++ (stored 0 (take 65535 rest) ++ []))) ++ chunks_from [] (drop 65535 rest) sum
    ≡ before ++ chunks_from front rest sum
block_more before front rest sum long =
    let count = fewer (length rest) (length (drop 65535 rest)) long (length-drop 65535 rest) in
    let here : List ℕ = chunk (codes "IDAT") (front ++ stored 0 (take 65535 rest)) in
    ap (λ (xs : List ℕ). (before ++ chunk (codes "IDAT") (front ++ xs)) ++ chunks_from [] (drop 65535 rest) sum)
    (append-nil (stored 0 (take 65535 rest)))
    ∙ append_assoc before here (chunks_from [] (drop 65535 rest) sum)
    ∙ ap (λ (k : ℕ). before ++ chunks_by 65535 k front rest sum) (sym count)

-- the chunk of the last block
pub last_block : (before front rest sum : List ℕ) → length rest ≤ 65535
    → before ++ chunk (codes "IDAT") (front ++ (stored 1 rest ++ sum)) ≡ before ++ chunks_from front rest sum
last_block before front rest sum short =
    ap (λ (k : ℕ). before ++ chunks_by 65535 k front rest sum) (sym (none (length rest) short))
