-- A linear search: the first number that passes a test.
use Rattle.std.specs.Prelude.{◌≡◌, ℕ, zero, suc, ◌+◌, ◌-◌, ◌<◌, Bool, true, false, if◌then◌else◌, Option, Some, None, refl}
use Rattle.std.proofs.Common.{arith, add-zero, zero-add}

-- the least of the n numbers from i on that passes the test
abbrev pub first_from : (ℕ → Bool) → ℕ → ℕ → Option ℕ
first_from passes i zero = None
first_from passes i (suc n) = if passes i then Some i else first_from passes (i + 1) n

-- the least number below n that passes the test
abbrev pub first_below : ℕ → (ℕ → Bool) → Option ℕ
first_below n passes = first_from passes 0 n

-- if i fails the test, the search continues after i
pub first_from_next : (passes : ℕ → Bool) (i n : ℕ) → i < n → passes i ≡ false → first_from passes i (n - i)
    ≡ first_from passes (i + 1) (n - (i + 1))
first_from_next passes i n below fails =
    let more : n - i ≡ suc (n - (i + 1)) = omega arith in
    rw (more, fails) refl

-- if i passes the test, the search finds i
pub first_from_here : (passes : ℕ → Bool) (i n : ℕ) → i < n → passes i ≡ true → first_from passes i (n - i) ≡ Some i
first_from_here passes i n below holds =
    let more : n - i ≡ suc (n - (i + 1)) = omega arith in
    rw (more, holds) refl

-- a choice that gives None has failed its test, and the other choice is None
if_none : (b : Bool) (i : ℕ) (others : Option ℕ) → (if b then Some i else others) ≡ None → (b ≡ false) × (others ≡ None)
if_none true i others nothing = cc
if_none false i others nothing = (refl, nothing)

first_from_none : (passes : ℕ → Bool) (i n k : ℕ) → first_from passes i n ≡ None → k < n → passes (i + k) ≡ false
first_from_none passes i zero k nothing below = absurd (omega arith)
first_from_none passes i (suc n) zero nothing below = rw add-zero
    ((if_none (passes i) i (first_from passes (i + 1) n) nothing).0)
first_from_none passes i (suc n) (suc k) nothing below =
    let later : i + suc k ≡ (i + 1) + k = omega arith in
    rw later (first_from_none passes (i + 1) n k ((if_none (passes i) i (first_from passes (i + 1) n) nothing).1)
    (omega arith))

-- if nothing is found, no number passes
pub first_below_none : (n : ℕ) (passes : ℕ → Bool) (k : ℕ) → first_below n passes ≡ None → k < n → passes k ≡ false
first_below_none n passes k nothing below = rw zero-add at (first_from_none passes 0 n k nothing below)

-- k is the least number below n that passes
pub record IsLeast (passes : ℕ → Bool) (n k : ℕ) : Type 0 where
  pub within : k < n
  pub holds : passes k ≡ true
  pub before : (j : ℕ) → j < k → passes j ≡ false

first_from_least : (passes : ℕ → Bool) (i n d : ℕ) → d < n → passes (i + d) ≡ true
    → ((j : ℕ) → j < d → passes (i + j) ≡ false) → first_from passes i n ≡ Some (i + d)
first_from_least passes i zero d within holds before = absurd (omega arith)
first_from_least passes i (suc n) zero within holds before =
    let here : passes i ≡ true = rw add-zero at holds in rw (here, add-zero i) refl
first_from_least passes i (suc n) (suc d) within holds before =
    let here : passes i ≡ false = rw add-zero at (before 0 (omega arith)) in
    let place : i + suc d ≡ (i + 1) + d = omega arith in
    let later : (j : ℕ) → j < d → passes ((i + 1) + j) ≡ false = λ j below. let same : i + suc j ≡ (i + 1)
    + j = omega arith in rw same at (before (suc j) (omega arith)) in
    rw (here, place) (first_from_least passes (i + 1) n d (omega arith) (rw place at holds) later)

-- the search finds the least number that passes
pub first_below_least : (passes : ℕ → Bool) (n k : ℕ) → IsLeast passes n k → first_below n passes ≡ Some k
first_below_least passes n k least =
    let holds : passes (0 + k) ≡ true = rw zero-add least.holds in
    let before : (j : ℕ) → j < k → passes (0 + j) ≡ false = λ j below. rw zero-add (least.before j below) in
    rw zero-add at (first_from_least passes 0 n k least.within holds before)

first_from_nothing : (passes : ℕ → Bool) (i n : ℕ) → ((j : ℕ) → j < n → passes (i + j) ≡ false) → first_from passes i n
    ≡ None
first_from_nothing passes i zero fails = refl
first_from_nothing passes i (suc n) fails =
    let here : passes i ≡ false = rw add-zero at (fails 0 (omega arith)) in
    let later : (j : ℕ) → j < n → passes ((i + 1) + j) ≡ false = λ j below. let same : i + suc j ≡ (i + 1)
    + j = omega arith in rw same at (fails (suc j) (omega arith)) in
    rw here (first_from_nothing passes (i + 1) n later)

-- if no number passes, nothing is found
pub first_below_nothing : (passes : ℕ → Bool) (n : ℕ) → ((j : ℕ) → j < n → passes j ≡ false) → first_below n passes
    ≡ None
first_below_nothing passes n fails = first_from_nothing passes 0 n (λ j below. rw zero-add (fails j below))
