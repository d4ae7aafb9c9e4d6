-- Chains of steps that may fail, and lists read item by item.
use Rattle.std.proofs.Common.{◌≡◌, List, [], ◌++◌, Result, Ok, Err, refl, append_assoc}
use Rattle.tt_core.specs.Faults.{Fault}
use Rattle.tt_core.specs.Outcomes.{◌>>=◌}
use Rattle.tt_glyf.specs.Bytes.{Listing, after}

-- equal first steps, followed by equal steps
pub chain-same : {A B E : Type 0} (x : Result A E) (f h : A → Result B E) → ((y : A) → f y ≡ h y)
    → (x >>= f) ≡ (x >>= h)
chain-same (Ok y) f h same = same y
chain-same (Err e) f h same = refl

pub after-after : {A : Type 0} (a b : List A) (x : Result (Listing A) Fault) → after a (after b x) ≡ after (a ++ b) x
after-after a b (Ok read) = rw append_assoc refl
after-after a b (Err f) = refl

pub after-nothing : {A : Type 0} (x : Result (Listing A) Fault) → after [] x ≡ x
after-nothing (Ok read) = refl
after-nothing (Err f) = refl

-- a list that was read after other items
pub record CameAfter {A : Type 0} (before : List A) (x : Result (Listing A) Fault) (y : Listing A) : Type 0 where
  pub read : Listing A
  pub was : x ≡ Ok read
  pub is : y ≡ record { items = before ++ read.items; next = read.next }

pub came-after : {A : Type 0} (before : List A) (x : Result (Listing A) Fault) (y : Listing A) → after before x ≡ Ok y
    → CameAfter before x y
came-after before (Ok read) y was = record { read = read; was = refl; is = cc }
came-after before (Err f) y was = absurd cc

pub after-err : {A : Type 0} (before : List A) (x : Result (Listing A) Fault) (f : Fault) → after before x ≡ Err f
    → x ≡ Err f
after-err before (Ok read) f was = absurd cc
after-err before (Err d) f was = cc
