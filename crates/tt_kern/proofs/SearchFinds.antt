-- Where keys rise, a search finds the key that is there.
use Rattle.std.proofs.Common.{◌≡◌, ℕ, ◌+◌, ◌-◌, ◌*◌, ◌<◌, ◌≤◌, Bool, true, false, List, Some, inl, inr, refl, arith}
use Rattle.std.proofs.lemmas.Bool.{cases_lt}
use Rattle.std.proofs.lemmas.Bool.Decides.{nat_tests}
use Rattle.std.specs.Prelude.{nat_lt, nat_le, ◌==◌}
use Rattle.tt_kern.specs.declared.search.KeySize.{KeySize}
use Rattle.tt_kern.specs.Halves.{reached}
use Rattle.tt_kern.specs.Laws.{IsReached}
use Rattle.tt_kern.specs.Search.{key_at, is_at_least, found}
use Rattle.tt_kern.proofs.SearchEnds.{is-reached}

at-least : (a b : ℕ) → nat_le a b ≡ true → a ≤ b
at-least a b holds = grind (arith, nat_tests, holds)

below : (a b : ℕ) → nat_le a b ≡ false → b < a
below a b fails = grind (arith, nat_tests, fails)

is-below : (a b : ℕ) → a < b → nat_lt a b ≡ true
is-below a b less = grind (arith, nat_tests, less)

is-same : (a : ℕ) → (a == a) ≡ true
is-same a = grind (arith, nat_tests)

-- a search for the key of i ends at i
ends-at : (key : ℕ → ℕ) (n i r : ℕ) → ((j k : ℕ) → j < k → k < n → key j < key k) → i < n
    → IsReached (λ j. nat_le (key i) (key j)) n r → r ≡ i
ends-at key n i r rise inside it =
    elim (cases_lt r i) [
      | inl less ↦
          let high = at-least (key i) (key r) (it.holds (omega (arith, less, inside))) in
          let low = rise r i less inside in
          absurd (omega (arith, high, low))
      | inr above ↦ elim (cases_lt i r) [
        | inl more ↦
            let low = below (key i) (key (r - 1)) (it.before (omega (arith, more))) in
            elim (cases_lt i (r - 1)) [
              | inl further ↦
                  let high = rise i (r - 1) further (omega (arith, it.within, more)) in
                  absurd (omega (arith, low, high))
              | inr last ↦
                  let same : r - 1 ≡ i = omega (arith, last, more) in
                  let never : key i < key i = rw same at low in
                  absurd (omega (arith, never))
            ]
        | inr under ↦ omega (arith, above, under)
      ]
    ]

pub found-where-keys-rise : (size : KeySize) (b : List ℕ) (at step n i : ℕ)
    → ((j k : ℕ) → j < k → k < n → key_at size b (at + step * j) < key_at size b (at + step * k)) → i < n
    → found size b at step n (key_at size b (at + step * i)) ≡ Some i
found-where-keys-rise size b at step n i rise inside =
    let key : ℕ → ℕ = λ j. key_at size b (at + step * j) in
    let passes : ℕ → Bool = is_at_least size b at step (key i) in
    let same : reached n passes ≡ i = ends-at key n i (reached n passes) rise inside (is-reached passes n) in
    rw (same, is-below i n inside, is-same (key_at size b (at + step * i))) refl
