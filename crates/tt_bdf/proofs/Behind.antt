-- The texts of numbers from 0 on, one more at a time.
use Rattle.std.proofs.Common.{◌≡◌, ℕ, zero, suc, ◌+◌, List, [], ◌∷◌, ◌++◌, flat_map, ap, ◌∙◌, refl, arith}
use Rattle.std.proofs.lemmas.List.{flat_map_more}
use Rattle.std.specs.List.{range_with_len}

more-from : (a n j : ℕ) → a + n ≡ j → range_with_len a (suc n) ≡ range_with_len a n ++ j ∷ []
more-from a zero j is = let same : a ≡ j = omega (arith, is) in ap (λ k. k ∷ []) same
more-from a (suc n) j is = ap (λ ks. a ∷ ks) (more-from (a + 1) n j (omega (arith, is)))

pub range-more : (n : ℕ) → range_with_len 0 (n + 1) ≡ range_with_len 0 n ++ n ∷ []
range-more n = let next : n + 1 ≡ suc n = omega arith in
    ap (range_with_len 0) next ∙ more-from 0 n n (omega arith)

-- the texts of the numbers up to one more
pub texts-more : (f : ℕ → List ℕ) (before : List ℕ) (n : ℕ) → (before ++ flat_map f (range_with_len 0 n)) ++ f n
    ≡ before ++ flat_map f (range_with_len 0 (n + 1))
texts-more f before n = flat_map_more f before (range_with_len 0 n) n
    ∙ ap (λ ns. before ++ flat_map f ns) (rw (range-more n) refl)
