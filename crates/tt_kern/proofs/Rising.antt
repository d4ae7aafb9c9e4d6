-- The listed numbers in rising order: the next, and then the numbers after it.
use Rattle.std.proofs.Common.{◌≡◌, ℕ, zero, suc, ◌+◌, ◌-◌, ◌<◌, ◌≤◌, Bool, true, false, List, [], ◌∷◌, ◌++◌, refl, arith, add-zero, zero-add, ◌∙◌}
use Rattle.std.specs.Prelude.{◌==◌, ◌||◌}
use Rattle.std.proofs.lemmas.Bool.Decides.{nat_tests}
use Rattle.tt_kern.specs.Pairs.{is_listed, rising, IsNext}

is-same : (a : ℕ) → (a == a) ≡ true
is-same a = grind (arith, nat_tests)

is-other : (a b : ℕ) → (a ≡ b → ⊥) → (a == b) ≡ false
is-other a b differs = grind (arith, nat_tests, differs)

or-false : (a : Bool) → (a || false) ≡ a
or-false true = refl
or-false false = refl

or-true : (a : Bool) → (a || true) ≡ true
or-true true = refl
or-true false = refl

or-assoc : (a b c : Bool) → (a || (b || c)) ≡ ((a || b) || c)
or-assoc true b c = refl
or-assoc false b c = refl

-- numbers that fail are passed over
skipped : (n : ℕ) (passes : ℕ → Bool) (low d k : ℕ) → ((j : ℕ) → low ≤ j → j < low + d → passes j ≡ false)
    → rising (suc n) passes low (d + k) ≡ rising (suc n) passes (low + d) k
skipped n passes low zero k fails = let same : low + 0 ≡ low = add-zero low in let all : 0 + k ≡ k = zero-add k in rw (same, all) refl
skipped n passes low (suc d) k fails =
    let here : passes low ≡ false = fails low (omega arith) (omega arith) in
    let more : suc d + k ≡ suc (d + k) = omega arith in
    let there : low + suc d ≡ (low + 1) + d = omega arith in
    let rest = skipped n passes (low + 1) d k (λ j from below. fails j (omega (arith, from)) (omega (arith, below))) in
    rw (more, here, there) rest

none-left : (n : ℕ) (passes : ℕ → Bool) (low k : ℕ) → ((j : ℕ) → low ≤ j → j < low + k → passes j ≡ false)
    → rising n passes low k ≡ []
none-left zero passes low k fails = refl
none-left (suc n) passes low zero fails = refl
none-left (suc n) passes low (suc k) fails =
    let here : passes low ≡ false = fails low (omega arith) (omega arith) in
    rw here (none-left (suc n) passes (low + 1) k (λ j from below. fails j (omega (arith, from)) (omega (arith, below))))

-- the next number comes first, and then those after it
pub next-first : (n : ℕ) (xs : List ℕ) (low high next : ℕ) → IsNext xs low high next → next < high
    → rising (suc n) (is_listed xs) low (high - low) ≡ next ∷ rising n (is_listed xs) (next + 1) (high - (next + 1))
next-first n xs low high next is below =
    let d = next - low in
    let k = high - (next + 1) in
    let from : low ≤ next = (is.listed below).0 in
    let all : high - low ≡ (next - low) + suc (high - (next + 1)) = omega (arith, from, below) in
    let place : low + (next - low) ≡ next = omega (arith, from) in
    let there = skipped n (is_listed xs) low (next - low) (suc (high - (next + 1)))
    (λ j lower upper. is.others j lower (omega (arith, upper, place))) in
    let here : is_listed xs next ≡ true = (is.listed below).1 in
    rw all (there ∙ (rw (place, here) refl))

-- without a next number none are left
pub nothing-next : (n : ℕ) (xs : List ℕ) (low high next : ℕ) → IsNext xs low high next → high ≤ next
    → rising n (is_listed xs) low (high - low) ≡ []
nothing-next n xs low high next is none =
    none-left n (is_listed xs) low (high - low) (λ j lower upper. is.others j lower (omega (arith, upper, none, lower)))

-- one more number is listed
listed-more : (xs : List ℕ) (x k : ℕ) → is_listed (xs ++ x ∷ []) k ≡ (is_listed xs k || (x == k))
listed-more [] x k = or-false (x == k)
listed-more (y ∷ xs) x k = rw (listed-more xs x k) (or-assoc (y == k) (is_listed xs k) (x == k))

pub none-listed : (low high : ℕ) → IsNext [] low high high
none-listed low high = record {
  within = omega arith;
  listed = λ below. absurd (omega (arith, below));
  others = λ k from below. refl;
}

-- a number outside of the range changes nothing
pub next-stays : (xs : List ℕ) (low high next x : ℕ) → IsNext xs low high next → (low ≤ x → next ≤ x)
    → IsNext (xs ++ x ∷ []) low high next
next-stays xs low high next x is outside = record {
  within = is.within;
  listed = λ below. ((is.listed below).0, rw (listed-more xs x next, (is.listed below).1) refl);
  others = λ k from below. rw (listed-more xs x k, is.others k from below) (is-other x k (λ same. absurd (omega (arith, from, below, same, outside (omega (arith, same, from))))));
}

-- a number in the range is the next
pub next-moves : (xs : List ℕ) (low high next x : ℕ) → IsNext xs low high next → low ≤ x → x < next
    → IsNext (xs ++ x ∷ []) low high x
next-moves xs low high next x is from below = record {
  within = omega (arith, is.within, below);
  listed = λ inside. (from, rw (listed-more xs x x, is-same x) (or-true (is_listed xs x)));
  others = λ k lower upper. rw (listed-more xs x k, is.others k lower (omega (arith, upper, below))) (is-other x k (λ same. absurd (omega (arith, same, upper))));
}
