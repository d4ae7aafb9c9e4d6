-- How long the lists of lookups and subtables are at most.
use Rattle.std.proofs.Common.{ℕ, zero, suc, ◌+◌, ◌-◌, ◌≤◌, Bool, true, false, List, [], ◌∷◌, length, take, map, arith}
use Rattle.std.proofs.lemmas.Bool.Decides.{nat_tests}
use Rattle.std.proofs.lemmas.List.{length-take}
use Rattle.std.specs.Prelude.{nat_lt, if◌then◌else◌}
use Rattle.std.specs.List.{sum_by}
use Rattle.std.proofs.lemmas.List.Sums.{sum_by-cons}
use Rattle.tt_kern.specs.declared.kern_table.KernVersion.{KernVersion}
use Rattle.tt_kern.specs.KernTable.{header_size, length_told, count_told, count_taken, subtables_from}
use Rattle.tt_kern.specs.Pairs.{rising, is_listed, listed_by, lookups_of, subtables_in, first_of_all, subtables_of}
use Rattle.tt_kern.specs.Words.{word}

either : (there : Bool) (n : ℕ) (xs ys : List ℕ) → length xs ≤ n → length ys ≤ n → length (if there then xs else ys) ≤ n
either true n xs ys first second = first
either false n xs ys first second = second

short-rising : (n : ℕ) (passes : ℕ → Bool) (i k : ℕ) → length (rising n passes i k) ≤ n
short-rising zero passes i k = omega arith
short-rising (suc n) passes i zero = omega arith
short-rising (suc n) passes i (suc k) =
    let rest = short-rising n passes (i + 1) k in
    either (passes i) (suc n) (i ∷ rising n passes (i + 1) k) (rising (suc n) passes (i + 1) k) (omega (arith, rest))
    (short-rising (suc n) passes (i + 1) k)

pub few-lookups : (b : List ℕ) (feature : ℕ) → length (lookups_of b feature) ≤ 32
few-lookups b feature = short-rising 32 (is_listed (listed_by b feature)) 0 (word b (word b 8))

few-of-all : (n : ℕ) (ls : List (List ℕ)) → sum_by length (first_of_all n ls) ≤ n
few-of-all n [] = omega arith
few-of-all n (l ∷ ls) =
    let here = length-take n l in
    let rest = few-of-all (n - length l) ls in
    rw (sum_by-cons length (take n l) (first_of_all (n - length l) ls)) (omega (arith, here, rest))

pub few-subtables : (b : List ℕ) (feature : ℕ) → sum_by length (subtables_of b feature) ≤ 64
unfolding subtables_of
few-subtables b feature = few-of-all 64 (map (subtables_in b) (lookups_of b feature))

short-list : (m : KernVersion) (b : List ℕ) (n p : ℕ) → length (subtables_from m b n p) ≤ n
short-list m b zero p = omega arith
short-list m b (suc n) p =
    let rest = short-list m b n (p + length_told m b p) in
    let others = either (nat_lt (length_told m b p) (header_size m)) n [] (subtables_from m b n (p + length_told m b p)) (omega arith) rest in
    either (nat_lt (length b) (p + 8)) (suc n) [] _ (omega arith) (omega (arith, others))

at-most : (most n : ℕ) → (if nat_lt most n then most else n) ≤ most
at-most most n = grind (arith, nat_tests)

pub few-in-kern : (m : KernVersion) (b : List ℕ) (p : ℕ) → length (subtables_from m b (count_taken m b) p) ≤ 32
few-in-kern m b p =
    let list = short-list m b (count_taken m b) p in
    let taken = at-most 32 (count_told m b) in
    omega (arith, list, taken)
