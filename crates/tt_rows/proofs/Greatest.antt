-- The greatest number that passes a test: it passes unless it is 0, no greater one does, and it is the only such number.
use Rattle.std.proofs.Common.{◌≡◌, ◌∙◌, sym, subst, ℕ, zero, suc, ◌<◌, ◌≤◌, Bool, true, false, inl, inr, arith}
use Rattle.std.proofs.lemmas.Bool.{cases_Bool, cases_lt, cond-true, cond-false}
use Rattle.tt_rows.specs.Greatest.{greatest}

here : (p : ℕ → Bool) (n : ℕ) → p (suc n) ≡ true → greatest p (suc n) ≡ suc n
here p n holds = cond-true _ _ _ holds

below : (p : ℕ → Bool) (n : ℕ) → p (suc n) ≡ false → greatest p (suc n) ≡ greatest p n
below p n fails = cond-false _ _ _ fails

pub greatest_is : (p : ℕ → Bool) (n g : ℕ) → g ≤ n → (0 < g → p g ≡ true) → ((e : ℕ) → g < e → e ≤ n → p e ≡ false)
    → greatest p n ≡ g
greatest_is p zero g low holds beyond = let none : 0 ≡ g = omega arith in none
greatest_is p (suc n) g low holds beyond =
    elim (cases_lt g (suc n)) [
      | inl less ↦
          below p n (beyond (suc n) less (omega arith))
          ∙ greatest_is p n g (omega arith) holds (λ e above within. beyond e above (omega arith))
      | inr most ↦
          let top : g ≡ suc n = omega arith in
          here p n (subst (λ k. p k ≡ true) top (holds (omega arith))) ∙ sym top
    ]

pub greatest_within : (p : ℕ → Bool) (n : ℕ) → greatest p n ≤ n
greatest_within p zero = omega arith
greatest_within p (suc n) =
    elim (cases_Bool (p (suc n))) [
      | inl holds ↦ let same = here p n holds in omega (arith, same)
      | inr fails ↦ let same = below p n fails in let rest = greatest_within p n in omega (arith, same, rest)
    ]

pub greatest_holds : (p : ℕ → Bool) (n : ℕ) → 0 < greatest p n → p (greatest p n) ≡ true
greatest_holds p zero some = absurd (omega (arith, some))
greatest_holds p (suc n) some =
    elim (cases_Bool (p (suc n))) [
      | inl holds ↦ subst (λ k. p k ≡ true) (sym (here p n holds)) holds
      | inr fails ↦
          let same = below p n fails in
          subst (λ k. p k ≡ true) (sym same) (greatest_holds p n (omega (arith, same, some)))
    ]

pub greatest_beyond : (p : ℕ → Bool) (n e : ℕ) → greatest p n < e → e ≤ n → p e ≡ false
greatest_beyond p zero e above within = absurd (omega (arith, above, within))
greatest_beyond p (suc n) e above within =
    elim (cases_Bool (p (suc n))) [
      | inl holds ↦ let same = here p n holds in absurd (omega (arith, same, above, within))
      | inr fails ↦
          let same = below p n fails in
          elim (cases_lt e (suc n)) [
            | inl less ↦ greatest_beyond p n e (omega (arith, same, above)) (omega (arith, less))
            | inr most ↦ let top : suc n ≡ e = omega (arith, most, within) in subst (λ k. p k ≡ false) top fails
          ]
    ]
