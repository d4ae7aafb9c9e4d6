-- Binary search: the number that it ends at, and the count of numbers that it tests.
use Rattle.std.specs.Prelude.{◌≡◌, ℕ, zero, suc, ◌+◌, ◌-◌, ◌/◌, ◌<◌, ◌≤◌, nat_le, Bool, true, false, if◌then◌else◌, refl, [], ◌∷◌, map}

-- the count of tests in a binary search of the numbers from low on; the last argument is their count. The middle number
-- is tested first; then the half before it if it passes, or the half after it if it fails. The first argument is at
-- least the last.
unfoldable pub asked_within : ℕ → (ℕ → Bool) → ℕ → ℕ → ℕ
asked_within zero passes low left = 0
asked_within (suc n) passes low zero = 0
asked_within (suc n) passes low (suc rest) =
    let left = suc rest in
    if passes (low + left / 2) then 1 + asked_within n passes low (left / 2)
    else 1 + asked_within n passes (low + left / 2 + 1) (left - left / 2 - 1)

abbrev pub asked : (ℕ → Bool) → ℕ → ℕ → ℕ
asked passes low left = asked_within left passes low left

-- the number where such a search ends: the least that passes, if no number falls back; past all numbers if it ends
-- after them. Whatever the order of passing and failing numbers, this is what the search comes to (profile).
unfoldable pub reached_within : ℕ → (ℕ → Bool) → ℕ → ℕ → ℕ
reached_within zero passes low left = low
reached_within (suc n) passes low zero = low
reached_within (suc n) passes low (suc rest) =
    let left = suc rest in
    if passes (low + left / 2) then reached_within n passes low (left / 2)
    else reached_within n passes (low + left / 2 + 1) (left - left / 2 - 1)

abbrev pub reached : ℕ → (ℕ → Bool) → ℕ
reached n passes = reached_within n passes 0 n

-- i is where a search of n numbers may end: it passes, and the number before it fails
pub record IsReached (passes : ℕ → Bool) (n i : ℕ) : Type 0 where
  pub within : i ≤ n
  pub holds : i < n → passes i ≡ true
  pub before : 0 < i → passes (i - 1) ≡ false

-- no number that passes comes before one that fails
abbrev pub NeverFallsBack : (ℕ → Bool) → ℕ → Type 0
NeverFallsBack passes n = (j k : ℕ) → j ≤ k → k < n → passes k ≡ false → passes j ≡ false

-- worked values: of five numbers, the third is tested first
none_is_asked : asked (λ i. nat_le 3 i) 0 0 ≡ 0
unfolding asked_within
none_is_asked = refl

-- the first of five, the fourth, the last, and none of them
passing_from : map (λ k. asked (λ i. nat_le k i) 0 5) (0 ∷ 3 ∷ 4 ∷ 5 ∷ []) ≡ 3 ∷ 3 ∷ 3 ∷ 2 ∷ []
unfolding asked_within
passing_from = refl

ends_there : map (λ k. reached 5 (λ i. nat_le k i)) (0 ∷ 3 ∷ 4 ∷ 5 ∷ []) ≡ 0 ∷ 3 ∷ 4 ∷ 5 ∷ []
unfolding reached_within
ends_there = refl

-- two numbers, and the first alone passes: the second is tested, and nothing is left
falls_back : reached 2 (λ i. nat_le i 0) ≡ 2
unfolding reached_within
falls_back = refl
