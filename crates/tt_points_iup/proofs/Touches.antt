-- The first and the last touched point of a list in two parts.
use Rattle.std.proofs.Common.{◌≡◌, ℕ, ◌+◌, ◌<◌, Bool, true, false, if◌then◌else◌, List, [], ◌∷◌, ◌++◌, length, take, drop, get_or, Option, Some, None, ap, refl}
use Rattle.std.specs.Option.{option_or}
use Rattle.std.proofs.lemmas.List.{take_more, drop_more}
use Rattle.tt_state.specs.declared.graphics_state.Axis.{Axis}
use Rattle.tt_state.specs.declared.point.Point.{Point}
use Rattle.tt_points_zones.specs.Points.{is_touched}
use Rattle.tt_points_iup.specs.Interpolation.{first_touched, last_touched}
use Rattle.tt_points_iup.specs.Readings.{up_to_first}

either : (b : Bool) (p : Point) (x y : Option Point)
    → (if b then Some p else option_or x y) ≡ option_or (if b then Some p else x) y
either true p x y = refl
either false p x y = refl

pub first_of_two : (axis : Axis) (xs ys : List Point)
    → first_touched axis (xs ++ ys) ≡ option_or (first_touched axis xs) (first_touched axis ys)
first_of_two axis [] ys = refl
first_of_two axis (x ∷ xs) ys =
    rw (first_of_two axis xs ys) (either (is_touched axis x) x (first_touched axis xs) (first_touched axis ys))

pub last_of_two : (axis : Axis) (found : Option Point) (xs ys : List Point)
    → last_touched axis found (xs ++ ys) ≡ last_touched axis (last_touched axis found xs) ys
last_of_two axis found [] ys = refl
last_of_two axis found (x ∷ xs) ys = last_of_two axis (if is_touched axis x then Some x else found) xs ys

-- no touched point in a list: none at its head, and none after it
pub record NoneTouched (axis : Axis) (x : Point) (xs : List Point) : Type 0 where
  pub head : is_touched axis x ≡ false
  pub rest : first_touched axis xs ≡ None

none_by : (axis : Axis) (x : Point) (xs : List Point) (b : Bool) → is_touched axis x ≡ b
    → (if b then Some x else first_touched axis xs) ≡ None → NoneTouched axis x xs
none_by axis x xs true is none = absurd cc
none_by axis x xs false is none = record { head = is; rest = none }

pub none_touched : (axis : Axis) (x : Point) (xs : List Point) → first_touched axis (x ∷ xs) ≡ None
    → NoneTouched axis x xs
none_touched axis x xs none = none_by axis x xs (is_touched axis x) refl none

-- a list without a touched point, followed by others
pub first_after : (axis : Axis) (xs ys : List Point) → first_touched axis xs ≡ None
    → first_touched axis (xs ++ ys) ≡ first_touched axis ys
first_after axis xs ys none = rw (first_of_two axis xs ys, none) refl

-- one more untouched point
pub none_more : (axis : Axis) (ps : List Point) (i : ℕ) (d : Point) → i < length ps
    → first_touched axis (take i ps) ≡ None
    → is_touched axis (get_or ps i d) ≡ false → first_touched axis (take (i + 1) ps) ≡ None
none_more axis ps i d within none here =
    rw (take_more ps i d within, first_after axis (take i ps) (get_or ps i d ∷ []) none, here) refl

-- from a point on: it is touched, or the first and the last touched ones are among the others
pub first_here : (axis : Axis) (ps : List Point) (i : ℕ) (d : Point) → i < length ps
    → is_touched axis (get_or ps i d) ≡ true → first_touched axis (drop i ps) ≡ Some (get_or ps i d)
first_here axis ps i d inside here = rw (drop_more ps i d inside, here) refl

pub first_later : (axis : Axis) (ps : List Point) (i : ℕ) (d : Point) → i < length ps
    → is_touched axis (get_or ps i d) ≡ false → first_touched axis (drop i ps) ≡ first_touched axis (drop (i + 1) ps)
first_later axis ps i d inside here = rw (drop_more ps i d inside, here) refl

pub asked_here : (axis : Axis) (ps : List Point) (i : ℕ) (d : Point) → i < length ps
    → is_touched axis (get_or ps i d) ≡ true → up_to_first axis (drop i ps) ≡ 1
asked_here axis ps i d inside here = rw (drop_more ps i d inside, here) refl

pub asked_later : (axis : Axis) (ps : List Point) (i : ℕ) (d : Point) → i < length ps
    → is_touched axis (get_or ps i d) ≡ false → up_to_first axis (drop i ps) ≡ 1 + up_to_first axis (drop (i + 1) ps)
asked_later axis ps i d inside here = rw (drop_more ps i d inside, here) refl

pub last_here : (axis : Axis) (found : Option Point) (ps : List Point) (i : ℕ) (d : Point) → i < length ps
    → is_touched axis (get_or ps i d) ≡ true
    → last_touched axis found (drop i ps) ≡ last_touched axis (Some (get_or ps i d)) (drop (i + 1) ps)
last_here axis found ps i d inside here =
    rw (drop_more ps i d inside)
    (ap (λ (b : Bool). last_touched axis (if b then Some (get_or ps i d) else found) (drop (i + 1) ps)) here)

pub last_later : (axis : Axis) (found : Option Point) (ps : List Point) (i : ℕ) (d : Point) → i < length ps
    → is_touched axis (get_or ps i d) ≡ false
    → last_touched axis found (drop i ps) ≡ last_touched axis found (drop (i + 1) ps)
last_later axis found ps i d inside here =
    rw (drop_more ps i d inside)
    (ap (λ (b : Bool). last_touched axis (if b then Some (get_or ps i d) else found) (drop (i + 1) ps)) here)
