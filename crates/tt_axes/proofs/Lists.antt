-- The lists of avar: their offsets rise, and each fits where the last one does.
use Rattle.std.proofs.Common.{◌≡◌, ℕ, zero, suc, ◌+◌, ◌-◌, ◌*◌, ◌^◌, ◌<◌, ◌≤◌, false, List, length, ap, add-zero, add-suc, arith, mul-le-mul_left}
use Rattle.std.specs.Prelude.{nat_le}
use Rattle.std.proofs.lemmas.Bool.Decides.{nat_tests}
use Rattle.tt_axes.specs.Avar.{list_end, list_place}

pub small-product : (a b : ℕ) → a ≤ 196608 → b ≤ 262144 → a * b < 2 ^ 61
small-product a b first second = omega (arith, mul-le-mul_left b first)

-- a later list is behind the end of an earlier one
list-before : (avar : List ℕ) (i d : ℕ) → list_end avar (list_place avar i) ≤ list_place avar (suc (i + d))
list-before avar i zero = rw (add-zero i) (omega arith)
list-before avar i (suc d) = rw (add-suc i d) (omega (arith, list-before avar i d))

pub later : (avar : List ℕ) (i n : ℕ) → i < n → list_end avar (list_place avar i) ≤ list_place avar n
later avar i n below =
    let whole : suc (i + (n - suc i)) ≡ n = omega arith in
    omega (arith, list-before avar i (n - suc i), ap (list_place avar) whole)

-- behind the header
pub behind : (avar : List ℕ) (i : ℕ) → 8 ≤ list_place avar i
behind avar zero = omega arith
behind avar (suc i) = omega (arith, behind avar i)

pub too-short : (avar : List ℕ) (i n : ℕ) → i < n → length avar < list_place avar i + 2 → false ≡ nat_le (list_place avar n) (length avar)
too-short avar i n below short = grind (arith, nat_tests, later avar i n below)

pub no-header : (avar : List ℕ) (n : ℕ) → length avar < 8 → nat_le (list_place avar n) (length avar) ≡ false
no-header avar n short = grind (arith, nat_tests, behind avar n)
