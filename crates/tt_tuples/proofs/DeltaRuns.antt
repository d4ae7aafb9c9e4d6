-- Packed deltas, one at a time.
use Rattle.std.proofs.Common.{◌≡◌, ℕ, zero, suc, ◌+◌, ◌-◌, ◌<◌, ◌≤◌, ℤ, List, [], ◌∷◌, ◌++◌, Ok, Err, refl, arith, append-nil}
use Rattle.tt_core.specs.Faults.{Fault}
use Rattle.tt_tuples.specs.Bytes.{TupleStore, after}
use Rattle.tt_tuples.specs.Deltas.{PackedDelta, DeltaRun, next_delta, deltas_from}
use Rattle.tt_tuples.proofs.Chains.{after-after}

-- a delta, then those after it
pub turn : (b : TupleStore) (before : List ℤ) (n i : ℕ) (r : DeltaRun) (d : PackedDelta) → i < n
    → next_delta b r (n - i) ≡ Ok d
    → after before (deltas_from b (n - i) r) ≡ after (before ++ d.delta ∷ []) (deltas_from b (n - (i + 1)) d.run)
unfolding deltas_from
turn b before n i r d below was =
    let more : n - i ≡ suc (n - (i + 1)) = omega arith in
    let is = rw more at was in
    rw (more, is, after-after) refl

pub breaks : (b : TupleStore) (before : List ℤ) (left : ℕ) (r : DeltaRun) (e : Fault) → 0 < left
    → next_delta b r left ≡ Err e → after before (deltas_from b left r) ≡ Err e
unfolding deltas_from
breaks b before zero r e some was = absurd (omega arith)
breaks b before (suc left) r e some was = rw was refl

-- no delta remains
pub done : (b : TupleStore) (before : List ℤ) (n i : ℕ) (r : DeltaRun) → n ≤ i
    → after before (deltas_from b (n - i) r) ≡ Ok (record { value = before; next = r.at })
unfolding deltas_from
done b before n i r all =
    let none : n - i ≡ 0 = omega arith in
    rw (none, append-nil) refl
