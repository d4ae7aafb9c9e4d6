-- Lists that are read item by item.
use Rattle.std.proofs.Common.{◌≡◌, List, [], ◌++◌, Result, Ok, Err, refl, append_assoc}
use Rattle.tt_core.specs.Faults.{Fault}
use Rattle.tt_tuples.specs.Bytes.{Read, after}

pub after-after : {A : Type 0} (a b : List A) (x : Result (Read (List A)) Fault) → after a (after b x) ≡ after (a ++ b) x
after-after a b (Ok read) = rw append_assoc refl
after-after a b (Err e) = refl

pub after-nothing : {A : Type 0} (x : Result (Read (List A)) Fault) → after [] x ≡ x
after-nothing (Ok read) = refl
after-nothing (Err e) = refl

-- a list that was read after other items
pub record CameAfter {A : Type 0} (before : List A) (x : Result (Read (List A)) Fault) (y : Read (List A)) : Type 0 where
  pub read : Read (List A)
  pub was : x ≡ Ok read
  pub is : y ≡ record { value = before ++ read.value; next = read.next }

pub came-after : {A : Type 0} (before : List A) (x : Result (Read (List A)) Fault) (y : Read (List A))
    → after before x ≡ Ok y → CameAfter before x y
came-after before (Ok read) y was = record { read = read; was = refl; is = cc }
came-after before (Err e) y was = absurd cc
