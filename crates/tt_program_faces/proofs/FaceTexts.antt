-- The lines of one more face, and one more place of a named instance.
use Rattle.std.proofs.Common.{◌≡◌, ℕ, suc, ◌+◌, zero, List, [], ◌∷◌, ◌++◌, flat_map, ap, append_assoc, ◌∙◌, refl, ℤ, arith}
use Rattle.std.proofs.lemmas.List.{flat_map_more}
use Rattle.std.specs.List.{range_with_len}
use Rattle.tt_program_faces.specs.Variations.{value_words}

more-from : (a n j : ℕ) → a + n ≡ j → range_with_len a (suc n) ≡ range_with_len a n ++ j ∷ []
more-from a zero j is = let same : a ≡ j = omega (arith, is) in ap (λ k. k ∷ []) same
more-from a (suc n) j is = ap (λ ks. a ∷ ks) (more-from (a + 1) n j (omega (arith, is)))

range-more : (n : ℕ) → range_with_len 0 (n + 1) ≡ range_with_len 0 n ++ n ∷ []
range-more n = let next : n + 1 ≡ suc n = omega arith in
    ap (range_with_len 0) next ∙ more-from 0 n n (omega arith)

-- the lines up to one more face
pub lines-more : (line : ℕ → List ℕ) (head : List ℕ) (n : ℕ) → (head ++ flat_map line (range_with_len 0 n)) ++ line n
    ≡ head ++ flat_map line (range_with_len 0 (n + 1))
lines-more line head n = flat_map_more line head (range_with_len 0 n) n
    ∙ ap (λ ns. head ++ flat_map line ns) (rw (range-more n) refl)

-- a tag and a value behind what there is
pub place-more : (head comma tag : List ℕ) {v w : ℤ} → v ≡ w
    → ((head ++ comma) ++ tag) ++ value_words v ≡ head ++ (comma ++ (tag ++ value_words w))
place-more head comma tag {v} {w} is = append_assoc (head ++ comma) tag (value_words v) ∙ append_assoc head comma (tag ++ value_words v)
    ∙ ap (λ x. head ++ (comma ++ (tag ++ value_words x))) is
