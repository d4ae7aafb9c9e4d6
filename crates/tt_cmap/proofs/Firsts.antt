-- The first value among those of some numbers.
use Rattle.std.proofs.Common.{◌≡◌, ℕ, suc, ◌+◌, ◌-◌, ◌<◌, Option, Some, None, refl, arith}
use Rattle.tt_cmap.specs.WideChoice.{first_some}

pub first_some_next : {A : Type 0} (value : ℕ → Option A) (i n : ℕ) → i < n → value i ≡ None
    → first_some value i (n - i) ≡ first_some value (i + 1) (n - (i + 1))
first_some_next value i n below none =
    let more : n - i ≡ suc (n - (i + 1)) = omega (arith, below) in
    rw (more, none) refl

pub first_some_here : {A : Type 0} (value : ℕ → Option A) (i n : ℕ) (x : A) → i < n → value i ≡ Some x
    → first_some value i (n - i) ≡ Some x
first_some_here value i n x below there =
    let more : n - i ≡ suc (n - (i + 1)) = omega (arith, below) in
    rw (more, there) refl
