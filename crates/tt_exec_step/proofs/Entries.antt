-- Functions by number, seen without addresses.
use Rattle.std.proofs.Common.{◌≡◌, ℕ, ◌<◌, ℤ, pos, negsuc, unsigned_abs, int_le, true, List, refl, arith}
use Rattle.std.proofs.lemmas.Bool.Decides.{nat_tests}
use Rattle.std.proofs.lemmas.Int.{ints}
use Rattle.std.specs.Int.{FitsUnsignedBits}
use Rattle.tt_exec_step.specs.FunctionTable.{body_at, listed}
use Rattle.tt_exec_step.specs.MachineState.{Body}
use Rattle.tt_exec_step.specs.Numbered.{function_at}
use Rattle.tt_exec_step.proofs.Slots.{found-listed}

pub as_number : (n : ℤ) (m : ℕ) → FitsUnsignedBits 16 n → m ≡ unsigned_abs n → n ≡ pos m
as_number (pos k) m fits is = rw is refl
as_number (negsuc k) m fits is = absurd fits

-- the function with a number
pub number_at : (n : ℤ) (m : ℕ) (places : List ℕ) (bodies : List Body) → n ≡ pos m → m < 65536
    → body_at m places bodies ≡ function_at n (listed places bodies)
number_at n m places bodies is few =
    let low : int_le (pos 0) (pos m) ≡ true = grind (arith, ints, nat_tests) in
    let high : int_le (pos m) (pos 65535) ≡ true = grind (arith, ints, nat_tests) in
    let there = found-listed m places bodies in
    rw (is, low, high, there) refl
