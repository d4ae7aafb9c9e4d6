-- Packed point numbers, one at a time.
use Rattle.std.proofs.Common.{◌≡◌, ℕ, zero, suc, ◌+◌, ◌-◌, ◌<◌, ◌≤◌, List, [], ◌∷◌, ◌++◌, Option, Some, Ok, Err, refl, arith, append-nil}
use Rattle.tt_core.specs.Faults.{Fault}
use Rattle.tt_tuples.specs.Bytes.{TupleStore, after}
use Rattle.tt_tuples.specs.PointNumbers.{Number, NumberRun, next_number, numbers_from}
use Rattle.tt_tuples.proofs.Chains.{after-after}

-- a number, then those after it
pub turn : (b : TupleStore) (before : List ℕ) (n i : ℕ) (r : NumberRun) (last : Option ℕ) (m : Number) → i < n
    → next_number b r last ≡ Ok m
    → after before (numbers_from b (n - i) r last)
    ≡ after (before ++ m.number ∷ []) (numbers_from b (n - (i + 1)) m.run (Some m.number))
unfolding numbers_from
turn b before n i r last m below was =
    let more : n - i ≡ suc (n - (i + 1)) = omega arith in
    rw (more, was, after-after) refl

pub breaks : (b : TupleStore) (before : List ℕ) (left : ℕ) (r : NumberRun) (last : Option ℕ) (e : Fault) → 0 < left
    → next_number b r last ≡ Err e → after before (numbers_from b left r last) ≡ Err e
unfolding numbers_from
breaks b before zero r last e some was = absurd (omega arith)
breaks b before (suc left) r last e some was = rw was refl

-- no number remains
pub done : (b : TupleStore) (before : List ℕ) (n i : ℕ) (r : NumberRun) (last : Option ℕ) → n ≤ i
    → after before (numbers_from b (n - i) r last) ≡ Ok (record { value = before; next = r.at })
unfolding numbers_from
done b before n i r last all =
    let none : n - i ≡ 0 = omega arith in
    rw (none, append-nil) refl
