-- Points within the limit, in lists of two parts.
use Rattle.std.proofs.Common.{◌≡◌, ℕ, ◌≤◌, Bool, true, false, ◌&&◌, if◌then◌else◌, nat_le, List, ◌++◌, length, map, get_or, ◌<◌, All, Ok, Err, unsigned_abs, refl, rules}
use Rattle.std.specs.List.{list_all}
use Rattle.std.proofs.lemmas.Bool.Decides.{nat_tests}
use Rattle.std.proofs.lemmas.List.Elements.{All-weaker}
use Rattle.std.proofs.lemmas.List.Folds.{list_all-append, list_all-map, list_all_at}
use Rattle.std.proofs.lemmas.List.Sums.{list_all-from_AllPass}
use Rattle.tt_core.specs.Limits.{coordinate_limit}
use Rattle.tt_core.specs.declared.fault.Why.{Why}
use Rattle.tt_core.specs.declared.fault.Why.TheVariants as why
use Rattle.tt_state.specs.declared.graphics_state.Axis.{Axis}
use Rattle.tt_state.specs.declared.graphics_state.Axis.TheVariants as axis
use Rattle.tt_state.specs.declared.point.Point.{Point}
use Rattle.tt_points_zones.specs.Zones.{IsPoint}
use Rattle.tt_points_iup.specs.Interpolation.{within, limited, limited_point}

small : (n : ℕ) → n ≤ coordinate_limit → nat_le n coordinate_limit ≡ true
small n h = search (rules, nat_tests)

pub within_of : (axis : Axis) (p : Point) → IsPoint p → within axis p ≡ true
within_of axis.X p h = small (unsigned_abs p.x) h.x
within_of axis.Y p h = small (unsigned_abs p.y) h.y

all_within : (axis : Axis) (ps : List Point) → All IsPoint ps → list_all (within axis) ps ≡ true
all_within axis ps h =
    list_all-from_AllPass (within axis) ps (All-weaker IsPoint (λ p. within axis p ≡ true) (within_of axis) ps h)

pub limited_ok : (axis : Axis) (ps : List Point) → All IsPoint ps → limited axis ps ≡ Ok ps
limited_ok axis ps h = rw (all_within axis ps h) refl

-- a fault of some points is a fault of all
err_by : (b : Bool) (ps : List Point) (fault : Why) → (if b then Ok ps else Err why.ValueRange) ≡ Err fault
    → (b ≡ false) × (why.ValueRange ≡ fault)
err_by true ps fault h = absurd cc
err_by false ps fault h = (refl, cc)

and_false : (a b : Bool) → b ≡ false → (a && b) ≡ false
and_false true b h = h
and_false false b h = refl

false_and : (a b : Bool) → a ≡ false → (a && b) ≡ false
false_and a b h = rw h refl

pub limited_behind : (axis : Axis) (front back : List Point) (fault : Why) → limited axis back ≡ Err fault
    → limited axis (front ++ back) ≡ Err fault
limited_behind axis front back fault h =
    let is = err_by (list_all (within axis) back) back fault h in
    let all = list_all-append (within axis) front back in
    let bad = and_false (list_all (within axis) front) (list_all (within axis) back) is.0 in
    rw (all, bad, is.1) refl

pub limited_before : (axis : Axis) (front back : List Point) (fault : Why) → limited axis front ≡ Err fault
    → limited axis (front ++ back) ≡ Err fault
limited_before axis front back fault h =
    let is = err_by (list_all (within axis) front) front fault h in
    let all = list_all-append (within axis) front back in
    let bad = false_and (list_all (within axis) front) (list_all (within axis) back) is.0 in
    rw (all, bad, is.1) refl

-- one point
one_by : (b : Bool) (p : Point) (fault : Why) → (if b then Ok p else Err why.ValueRange) ≡ Err fault
    → (b ≡ false) × (why.ValueRange ≡ fault)
one_by true p fault h = absurd cc
one_by false p fault h = (refl, cc)

pub one_outside : (axis : Axis) (f : Point → Point) (ps : List Point) (i : ℕ) (d : Point) (fault : Why) → i < length ps
    → limited_point axis (f (get_or ps i d)) ≡ Err fault → limited axis (map f ps) ≡ Err fault
one_outside axis f ps i d fault inside h =
    let is = one_by (within axis (f (get_or ps i d))) (f (get_or ps i d)) fault h in
    let all = list_all-map (within axis) f ps in
    let bad = list_all_at (λ p. within axis (f p)) ps i d inside is.0 in
    rw (all, bad, is.1) refl

ok_by : (b : Bool) (p q : Point) → (if b then Ok p else Err why.ValueRange) ≡ Ok q → p ≡ q
ok_by true p q h = cc
ok_by false p q h = absurd cc

pub point_ok : (axis : Axis) (p q : Point) → limited_point axis p ≡ Ok q → p ≡ q
point_ok axis p q h = ok_by (within axis p) p q h

whole_by : (b : Bool) (ps qs : List Point) → (if b then Ok ps else Err why.ValueRange) ≡ Ok qs → ps ≡ qs
whole_by true ps qs h = cc
whole_by false ps qs h = absurd cc

pub whole_ok : (axis : Axis) (ps qs : List Point) → limited axis ps ≡ Ok qs → ps ≡ qs
whole_ok axis ps qs h = whole_by (list_all (within axis) ps) ps qs h
