-- The root of a whole number, cut, is the greatest whole number whose square is at most that number.
use Rattle.std.proofs.Common.{◌≡◌, ℕ, zero, suc, ◌+◌, ◌*◌, ◌/◌, ◌%◌, ◌^◌, ◌<◌, ◌≤◌, Bool, true, false, cond, leb, inl, inr, sym, refl, arith}
use Rattle.std.proofs.lemmas.Bool.{leb-true, leb-false, cases_lt}
use Rattle.std.proofs.lemmas.Nat.{mul-le}
use Rattle.std.proofs.Math.Nat.{pow-suc, div-add-mod', mul-add-div_right}
use Rattle.tt_state.specs.Vectors.{root}

pub record IsRoot (r n : ℕ) : Type 0 where
  pub low : r * r ≤ n
  pub high : n < (r + 1) * (r + 1)

digit : (r n : ℕ) (b : Bool) → IsRoot r (n / 4) → leb ((2 * r + 1) * (2 * r + 1)) n ≡ b
    → IsRoot (cond b (2 * r + 1) (2 * r)) n
digit r n true h e = record { low = leb-true _ _ e; high = omega (arith, h.high) }
digit r n false h e = record { low = omega (arith, h.low); high = leb-false _ _ e }

pub root_is : (k n : ℕ) → n < 4 ^ k → IsRoot (root k n) n
unfolding root
root_is zero n small = record { low = omega arith; high = omega arith }
root_is (suc k) n small = digit (root k (n / 4)) n _ (root_is k (n / 4) (omega (arith, pow-suc 4 k))) refl

-- if the square of b is at most n, and the square of a + 1 is above n, then b is at most a
pub at_most : (a b n : ℕ) → b * b ≤ n → n < (a + 1) * (a + 1) → b ≤ a
at_most a b n low high =
    elim (cases_lt a b) [
      | inl less ↦
          let square : (a + 1) * (a + 1) ≤ b * b = mul-le (a + 1) (a + 1) b b (omega arith) (omega arith) in
          absurd (omega arith)
      | inr h ↦ h
    ]

pub one_root : (a b n : ℕ) → a * a ≤ n → n < (a + 1) * (a + 1) → IsRoot b n → a ≡ b
one_root a b n low high is =
    omega (arith, at_most a b n is.low high, at_most b a n low is.high)

-- if a is at most the quotient n / l, then a l is at most n. If a is above the quotient, then a l is above n
pub quotient_low : (n l a : ℕ) → 0 < l → a ≤ n / l → a * l ≤ n
quotient_low n l a some h = grind arith

pub quotient_high : (n l a : ℕ) → 0 < l → n / l < a → n < a * l
quotient_high n l a some h = grind arith

-- 16384 n / l by two divisions, of numbers at most n or 16384 l
pub two_divisions : (n l : ℕ) → 0 < l → n / l * 16384 + n % l * 16384 / l ≡ n * 16384 / l
two_divisions n l some =
    let whole : n * 16384 ≡ n / l * 16384 * l + n % l * 16384 = omega (arith, div-add-mod' n l) in
    rw whole (sym (mul-add-div_right some (n / l * 16384) (n % l * 16384)))
