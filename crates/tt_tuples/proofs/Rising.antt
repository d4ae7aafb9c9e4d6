-- Point numbers that are read rise, and have 16 bits.
use Rattle.std.proofs.Common.{◌≡◌, ℕ, zero, suc, ◌<◌, ◌≤◌, ◌&&◌, nat_lt, Bool, true, false, List, [], ◌∷◌, length, slice_index, Option, Some, None, Result, Ok, Err, OnOk, refl, arith, All, ap}
use Rattle.std.proofs.lemmas.List.Elements.{All-cons, All-nil}
use Rattle.std.proofs.lemmas.Bool.Decides.{nat_tests}
use Rattle.tt_core.specs.Chains.{came-through, passed-else}
use Rattle.tt_core.specs.Outcomes.{Gives}
use Rattle.tt_core.specs.Faults.{Fault}
use Rattle.tt_tuples.specs.Bytes.{TupleStore, Read}
use Rattle.tt_tuples.specs.PointNumbers.{Number, NumberRun, difference_in, is_above, next_number, number_in, number_run, number_within, numbers_at, numbers_from, summed}
use Rattle.tt_tuples.specs.Sources.{IsList, Rises}
use Rattle.tt_tuples.specs.Views.{read_into}
use Rattle.tt_tuples.proofs.Chains.{came-after}

-- above the number before, if there is one
abbrev pub IsAbove : Option ℕ → ℕ → Type 0
IsAbove None n = Unit {0}
IsAbove (Some before) n = before < n

-- numbers that rise from the number before on
pub record Climb (before : Option ℕ) (ns : List ℕ) : Type 0 where
  pub above : (i : ℕ) → i < length ns → IsAbove before (slice_index ns i)
  pub rises : Rises ns
  pub words : All (λ n. n < 65536) ns

below : (m n : ℕ) → nat_lt m n ≡ true → m < n
below m n test = grind (arith, nat_tests)

both : (a b : Bool) → (a && b) ≡ true → (a ≡ true) × (b ≡ true)
both true true h = (refl, refl)
both true false h = absurd cc
both false b h = absurd cc

tested-above : (before : Option ℕ) (n : ℕ) → is_above before n ≡ true → IsAbove before n
tested-above None n test = tt
tested-above (Some m) n test = below m n test

-- what a number's test says
tested : (b : TupleStore) (r : NumberRun) (before : Option ℕ) (number n : ℕ) → number_within b r before number ≡ Ok n
    → IsAbove before n × (n < 65536)
tested b r before number n was =
    let p = passed-else (is_above before number && nat_lt number 65536) _ number n was in
    let tests = both (is_above before number) (nat_lt number 65536) p.0 in
    rw (← p.1) (tested-above before number tests.0, below number 65536 tests.1)

-- a number that is read is above the one before it
next-above : (b : TupleStore) (r : NumberRun) (before : Option ℕ) (n : Number) → next_number b r before ≡ Ok n
    → IsAbove before n.number × (n.number < 65536)
unfolding next_number
next-above b r before n was =
    let run = came-through (number_run b r) _ n was in
    let number = came-through (number_in b run.value before) _ n run.rest in
    let by = came-through (difference_in b run.value) _ number.value number.first in
    let is : number.value ≡ n.number = cc (number.rest) in
    rw (← is) (tested b run.value before (summed before by.value) number.value by.rest)

-- above a number that is itself above another
above-more : (before : Option ℕ) (n m : ℕ) → IsAbove before n → n < m → IsAbove before m
above-more None n m first more = tt
above-more (Some k) n m first more = omega arith

above-cons : (before : Option ℕ) (n : ℕ) (ns : List ℕ) → IsAbove before n → Climb (Some n) ns → (i : ℕ)
    → i < length (n ∷ ns) → IsAbove before (slice_index (n ∷ ns) i)
above-cons before n ns first others zero within = first
above-cons before n ns first others (suc i) within =
    above-more before n (slice_index ns i) first (others.above i (omega arith))

rises-cons : (n : ℕ) (ns : List ℕ) → Climb (Some n) ns → Rises (n ∷ ns)
rises-cons n ns others i zero less within = absurd (omega arith)
rises-cons n ns others zero (suc j) less within = others.above j (omega arith)
rises-cons n ns others (suc i) (suc j) less within = others.rises i j (omega arith) (omega arith)

climb-cons : (before : Option ℕ) (n : ℕ) (ns : List ℕ) → IsAbove before n → n < 65536 → Climb (Some n) ns
    → Climb before (n ∷ ns)
climb-cons before n ns first word others = record {
  above = above-cons before n ns first others;
  rises = rises-cons n ns others;
  words = All-cons (λ m. m < 65536) n ns word others.words;
}

climb-none : (before : Option ℕ) → Climb before []
climb-none before = record {
  above = λ i within. absurd (omega arith);
  rises = λ i j less within. absurd (omega arith);
  words = All-nil (λ m. m < 65536);
}

-- the numbers that are read rise, and are as many as asked for
climb : (b : TupleStore) (count : ℕ) (r : NumberRun) (before : Option ℕ) (read : Read (List ℕ))
    → numbers_from b count r before ≡ Ok read → Climb before read.value × (length read.value ≡ count)
unfolding numbers_from
climb b zero r before read was =
    let none : read.value ≡ [] = cc in
    rw none (climb-none before, refl)
climb b (suc count) r before read was =
    let first = came-through (next_number b r before) _ read was in
    let n = first.value in
    let others = came-after (n.number ∷ []) (numbers_from b count n.run (Some n.number)) read first.rest in
    let is : read.value ≡ n.number ∷ others.read.value = ap (λ (y : Read (List ℕ)). y.value) others.is in
    let above = next-above b r before n first.first in
    let climbs = climb b count n.run (Some n.number) others.read others.was in
    rw is (climb-cons before n.number others.read.value above.0 above.1 climbs.0, omega (arith, climbs.1))

pub numbers-rise : (b : TupleStore) (at count points : ℕ) (read : Read (List ℕ)) → numbers_at b at count ≡ Ok read
    → count ≤ points → IsList points read.value
numbers-rise b at count points read was few =
    let climbs = climb b count _ None read was in
    record { few = omega (arith, climbs.1); rises = climbs.0.rises; words = climbs.0.words }

pub read-rises : (b : TupleStore) (items : List ℕ) (at count points : ℕ) (result : Result ℕ Fault)
    → Gives (read_into items) result (numbers_at b at count) → count ≤ points → OnOk result (IsList points items)
read-rises b items at count points (Ok next) gives few = numbers-rise b at count points (read_into items next) gives few
read-rises b items at count points (Err e) gives few = tt
