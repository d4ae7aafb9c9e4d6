-- Rows behind their filter types, row after row.
use Rattle.std.proofs.Common.{◌≡◌, ℕ, zero, suc, ◌+◌, ◌-◌, ◌*◌, ◌<◌, ◌≤◌, List, [], ◌∷◌, ◌++◌, drop, take, ap, sym, ◌∙◌, arith, append_assoc, append-nil, mul-suc}
use Rattle.tt_png.specs.Png.{filtered}

-- one row more, and the rest
pub row_more : (bytes left : ℕ) (content rest : List ℕ) → 0 < left
    → ((content ++ 0 ∷ []) ++ take bytes rest) ++ filtered bytes (left - 1) (drop bytes rest) ≡ content ++ filtered bytes left rest
row_more bytes zero content rest some = absurd (omega (arith, some))
row_more bytes (suc left) content rest some =
    let one : suc left - 1 ≡ left = omega arith in
    let later = filtered bytes left (drop bytes rest) in
    ap (λ (k : ℕ). ((content ++ 0 ∷ []) ++ take bytes rest) ++ filtered bytes k (drop bytes rest)) one
    ∙ append_assoc (content ++ 0 ∷ []) (take bytes rest) later
    ∙ append_assoc content (0 ∷ []) (take bytes rest ++ later)

-- no row remains
pub none_left : (bytes left : ℕ) (content rest : List ℕ) → left ≤ 0 → content ≡ content ++ filtered bytes left rest
none_left bytes zero content rest none = sym (append-nil content)
none_left bytes (suc left) content rest none = absurd (omega (arith, none))

-- a row less
pub row_less : (bytes left : ℕ) → 0 < left → bytes * left ≡ bytes * (left - 1) + bytes
row_less bytes zero some = absurd (omega (arith, some))
row_less bytes (suc left) some =
    let one : suc left - 1 ≡ left = omega arith in
    mul-suc bytes left ∙ ap (λ (k : ℕ). bytes * k + bytes) (sym one)
