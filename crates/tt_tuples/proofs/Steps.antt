-- The tuples, one at a time.
use Rattle.std.proofs.Common.{◌≡◌, ℕ, zero, suc, ◌+◌, ◌-◌, ◌<◌, ◌==◌, false, [], Ok, Err, refl, arith}
use Rattle.std.proofs.lemmas.Bool.Decides.{nat_tests}
use Rattle.tt_core.specs.Faults.{Fault}
use Rattle.tt_tuples.specs.Headers.{TupleHeader, tuple_header_at}
use Rattle.tt_tuples.specs.PointNumbers.{TuplePoints}
use Rattle.tt_tuples.specs.Sources.{Source, Tuple}
use Rattle.tt_tuples.specs.Tuples.{tuple_at, tuple_before, tuples_from}

some : (n : ℕ) → 0 < n → (n == 0) ≡ false
some n positive = grind (arith, nat_tests)

-- a tuple that holds
pub held : (s : Source) (shared : TuplePoints) (left at data_at : ℕ) (h : TupleHeader) (t : Tuple) → 0 < left
    → tuple_header_at s at ≡ Ok h → 0 < h.share → tuple_at s shared h data_at ≡ Ok t
    → tuples_from s shared left at data_at ≡ tuple_before t (tuples_from s shared (left - 1) h.next (data_at + h.size))
unfolding tuples_from
held s shared zero at data_at h t more header holds tuple = absurd (omega arith)
held s shared (suc left) at data_at h t more header holds tuple =
    let test = some h.share holds in
    let one : suc left - 1 ≡ left = omega arith in
    rw (header, test, tuple, one) refl

-- a tuple that does not hold
pub passed_over : (s : Source) (shared : TuplePoints) (left at data_at : ℕ) (h : TupleHeader) → 0 < left
    → tuple_header_at s at ≡ Ok h → h.share ≡ 0
    → tuples_from s shared left at data_at ≡ tuples_from s shared (left - 1) h.next (data_at + h.size)
unfolding tuples_from
passed_over s shared zero at data_at h more header holds = absurd (omega arith)
passed_over s shared (suc left) at data_at h more header holds =
    let one : suc left - 1 ≡ left = omega arith in
    rw (header, holds, one) refl

pub header_breaks : (s : Source) (shared : TuplePoints) (left at data_at : ℕ) (e : Fault) → 0 < left
    → tuple_header_at s at ≡ Err e → tuples_from s shared left at data_at ≡ Err e
unfolding tuples_from
header_breaks s shared zero at data_at e more header = absurd (omega arith)
header_breaks s shared (suc left) at data_at e more header = rw header refl

pub data_breaks : (s : Source) (shared : TuplePoints) (left at data_at : ℕ) (h : TupleHeader) (e : Fault) → 0 < left
    → tuple_header_at s at ≡ Ok h → 0 < h.share → tuple_at s shared h data_at ≡ Err e
    → tuples_from s shared left at data_at ≡ Err e
unfolding tuples_from
data_breaks s shared zero at data_at h e more header holds tuple = absurd (omega arith)
data_breaks s shared (suc left) at data_at h e more header holds tuple =
    let test = some h.share holds in
    rw (header, test, tuple) refl

-- no tuple remains
pub none_left : (s : Source) (shared : TuplePoints) (left at data_at : ℕ) → left ≡ 0
    → tuples_from s shared left at data_at ≡ Ok []
unfolding tuples_from
none_left s shared left at data_at none = rw none refl
