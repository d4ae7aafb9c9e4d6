-- The first and the last named point of a list in two parts.
use Rattle.std.proofs.Common.{◌≡◌, ℕ, ◌+◌, ◌<◌, Bool, true, false, if◌then◌else◌, List, [], ◌∷◌, ◌++◌, length, take, get_or, Option, Some, None, refl}
use Rattle.std.specs.Option.{option_or}
use Rattle.std.proofs.lemmas.List.{take_more}
use Rattle.tt_deltas_inference.specs.Inference.{first_named, last_named}
use Rattle.tt_deltas_inference.specs.declared.point.AxisPoint.{AxisPoint}

either : (b : Bool) (p : AxisPoint) (x y : Option AxisPoint)
    → (if b then Some p else option_or x y) ≡ option_or (if b then Some p else x) y
either true p x y = refl
either false p x y = refl

pub first_of_two : (xs ys : List AxisPoint) → first_named (xs ++ ys) ≡ option_or (first_named xs) (first_named ys)
first_of_two [] ys = refl
first_of_two (x ∷ xs) ys = rw (first_of_two xs ys) (either x.named x (first_named xs) (first_named ys))

pub last_of_two : (found : Option AxisPoint) (xs ys : List AxisPoint)
    → last_named found (xs ++ ys) ≡ last_named (last_named found xs) ys
last_of_two found [] ys = refl
last_of_two found (x ∷ xs) ys = last_of_two (if x.named then Some x else found) xs ys

-- no named point in a list: none at its head, and none after it
pub record NoneNamed (x : AxisPoint) (xs : List AxisPoint) : Type 0 where
  pub head : x.named ≡ false
  pub rest : first_named xs ≡ None

none_by : (x : AxisPoint) (xs : List AxisPoint) (b : Bool) → x.named ≡ b
    → (if b then Some x else first_named xs) ≡ None → NoneNamed x xs
none_by x xs true is none = absurd cc
none_by x xs false is none = record { head = is; rest = none }

pub none_named : (x : AxisPoint) (xs : List AxisPoint) → first_named (x ∷ xs) ≡ None → NoneNamed x xs
none_named x xs none = none_by x xs (x.named) refl none

-- a list without a named point, followed by others
pub first_after : (xs ys : List AxisPoint) → first_named xs ≡ None → first_named (xs ++ ys) ≡ first_named ys
first_after xs ys none = rw (first_of_two xs ys, none) refl

-- one more unnamed point
pub none_more : (ps : List AxisPoint) (i : ℕ) (d : AxisPoint) → i < length ps → first_named (take i ps) ≡ None
    → (get_or ps i d).named ≡ false → first_named (take (i + 1) ps) ≡ None
none_more ps i d within none here =
    rw (take_more ps i d within, first_after (take i ps) (get_or ps i d ∷ []) none, here) refl
