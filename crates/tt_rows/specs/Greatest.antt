-- The greatest number that passes a test.
use Rattle.std.specs.Prelude.{◌≡◌, refl, ℕ, zero, suc, Bool, nat_le, nat_lt, if◌then◌else◌}

-- the greatest of the numbers from 1 to n that passes, else 0
abbrev pub greatest : (ℕ → Bool) → ℕ → ℕ
greatest passes zero = zero
greatest passes (suc n) = if passes (suc n) then suc n else greatest passes n

-- worked values
the_greatest : greatest (λ k. nat_le k 3) 5 ≡ 3
the_greatest = refl

none_passes : greatest (λ k. nat_lt 9 k) 5 ≡ 0
none_passes = refl
