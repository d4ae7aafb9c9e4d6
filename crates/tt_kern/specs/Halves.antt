-- Binary search: the number that it ends at, and the count of numbers that it tests.
use Rattle.std.specs.Prelude.{◌≡◌, ℕ, zero, suc, ◌+◌, ◌-◌, ◌/◌, nat_le, Bool, if◌then◌else◌, refl, [], ◌∷◌, map}

-- the number where a search of the numbers from low on ends; the last argument is their count. The middle number is
-- tested first; then the half before it if it passes, or the half after it if it fails. The first argument is at least
-- the last. Whatever the order of passing and failing numbers, this is where the search ends (profile).
unfoldable pub reached_within : ℕ → (ℕ → Bool) → ℕ → ℕ → ℕ
reached_within zero passes low left = low
reached_within (suc n) passes low zero = low
reached_within (suc n) passes low (suc rest) =
    let left = suc rest in
    if passes (low + left / 2) then reached_within n passes low (left / 2)
    else reached_within n passes (low + left / 2 + 1) (left - left / 2 - 1)

abbrev pub reached : ℕ → (ℕ → Bool) → ℕ
reached n passes = reached_within n passes 0 n

-- the count of tests of such a search
unfoldable pub asked_within : ℕ → (ℕ → Bool) → ℕ → ℕ → ℕ
asked_within zero passes low left = 0
asked_within (suc n) passes low zero = 0
asked_within (suc n) passes low (suc rest) =
    let left = suc rest in
    if passes (low + left / 2) then 1 + asked_within n passes low (left / 2)
    else 1 + asked_within n passes (low + left / 2 + 1) (left - left / 2 - 1)

abbrev pub asked : ℕ → (ℕ → Bool) → ℕ
asked n passes = asked_within n passes 0 n

-- worked values: of five numbers, the third is tested first
ends_there : map (λ k. reached 5 (λ i. nat_le k i)) (0 ∷ 3 ∷ 4 ∷ 5 ∷ []) ≡ 0 ∷ 3 ∷ 4 ∷ 5 ∷ []
unfolding reached_within
ends_there = refl

-- two numbers, and the first alone passes: the second is tested, and nothing is left
falls_back : reached 2 (λ i. nat_le i 0) ≡ 2
unfolding reached_within
falls_back = refl

tests : map (λ k. asked 5 (λ i. nat_le k i)) (0 ∷ 3 ∷ 4 ∷ 5 ∷ []) ≡ 3 ∷ 3 ∷ 3 ∷ 2 ∷ []
unfolding asked_within
tests = refl
