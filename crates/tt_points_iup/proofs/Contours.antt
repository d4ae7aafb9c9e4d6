-- A contour, point by point, is the result of a sweep.
use Rattle.std.proofs.Common.{◌≡◌, ◌∙◌, Bool, true, false, if◌then◌else◌, List, [], ◌∷◌, ◌++◌, Option, Some, None, ap, sym, refl, append_assoc}
use Rattle.std.specs.Option.{option_or, unwrap_or}
use Rattle.std.proofs.lemmas.List.{append-nil}
use Rattle.tt_state.specs.declared.graphics_state.Axis.{Axis}
use Rattle.tt_state.specs.declared.point.Point.{Point}
use Rattle.tt_points_zones.specs.Points.{is_touched}
use Rattle.tt_points_iup.specs.Interpolation.{interpolated_by, first_touched, last_touched, contour_from, contour}
use Rattle.tt_points_iup.specs.Sweeps.{swept}
use Rattle.tt_points_iup.specs.declared.place.Along.{Along}
use Rattle.tt_points_iup.proofs.Touches.{first_of_two, last_of_two, none_touched}

-- the first of two, where their first in the other order is known
other_way : (x y : Option Point) (first : Point) → option_or y x ≡ Some first → option_or x y ≡ Some (unwrap_or x first)
other_way (Some b) y first h = refl
other_way None (Some b) first h = h
other_way None None first h = absurd cc

-- the touched points that a sweep carries to the remaining ones
record Carried (along : Along) (before first : Point) (front back : List Point) : Type 0 where
  last : last_touched along.axis None (back ++ front) ≡ Some before
  first_one : first_touched along.axis (front ++ back) ≡ Some first

step : (along : Along) (before first : Point) (front : List Point) (p : Point) (ps : List Point) (t : Bool)
    → is_touched along.axis p ≡ t → Carried along before first front (p ∷ ps)
    → ((b : Point) → Carried along b first (front ++ p ∷ []) ps
    → contour_from along (front ++ p ∷ []) ps ≡ swept along b first ps)
    → contour_from along front (p ∷ ps) ≡ swept along before first (p ∷ ps)
step along before first front p ps true is c rest =
    let last : last_touched along.axis None (ps ++ (front ++ p ∷ [])) ≡ Some p =
    rw (← append_assoc ps front (p ∷ []), last_of_two along.axis None (ps ++ front) (p ∷ []), is) refl in
    let next : Carried along p first (front ++ p ∷ []) ps =
    record { last = last; first_one = rw (append_assoc front (p ∷ []) ps) (c.first_one) } in
    rw (is, rest p next) refl
step along before first front p ps false is c rest =
    let others = ap (λ (b : Bool). last_touched along.axis (if b then Some p else None) (ps ++ front)) is in
    let here : last_touched along.axis None (ps ++ front) ≡ Some before = sym others ∙ c.last in
    let last : last_touched along.axis None (ps ++ (front ++ p ∷ [])) ≡ Some before =
    rw (← append_assoc ps front (p ∷ []), last_of_two along.axis None (ps ++ front) (p ∷ []), is) here in
    let next : Carried along before first (front ++ p ∷ []) ps =
    record { last = last; first_one = rw (append_assoc front (p ∷ []) ps) (c.first_one) } in
    let behind : first_touched along.axis (p ∷ ps) ≡ first_touched along.axis ps = rw is refl in
    let two = rw (first_of_two along.axis front (p ∷ ps), behind) at c.first_one in
    let after : first_touched along.axis (ps ++ front) ≡ Some (unwrap_or (first_touched along.axis ps) first) =
    rw (first_of_two along.axis ps front)
    (other_way (first_touched along.axis ps) (first_touched along.axis front) first two) in
    rw (is, here, after, rest before next) refl

swept_from : (along : Along) (before first : Point) (front back : List Point) → Carried along before first front back
    → contour_from along front back ≡ swept along before first back
swept_from along before first front [] c = refl
swept_from along before first front (p ∷ ps) c =
    step along before first front p ps (is_touched along.axis p) refl c
    (λ b next. swept_from along b first (front ++ p ∷ []) ps next)

pub contour_is_swept : (along : Along) (last first : Point) (ps : List Point)
    → last_touched along.axis None ps ≡ Some last → first_touched along.axis ps ≡ Some first
    → contour along ps ≡ swept along last first ps
unfolding contour
contour_is_swept along last first ps behind ahead =
    swept_from along last first [] ps (record { last = rw (append-nil ps) behind; first_one = ahead })

-- without a touched point
by_none : (along : Along) (x : Option Point) (p : Point) → interpolated_by along x None p ≡ p
by_none along (Some a) p = refl
by_none along None p = refl

record Neither (x y : Option Point) : Type 0 where
  one : x ≡ None
  other : y ≡ None

neither : (x y : Option Point) → option_or x y ≡ None → Neither x y
neither (Some a) y h = absurd cc
neither None y h = record { one = refl; other = h }

none_from : (along : Along) (front back : List Point) → first_touched along.axis (front ++ back) ≡ None
    → contour_from along front back ≡ back
none_from along front [] none = refl
none_from along front (p ∷ ps) none =
    let two = rw (first_of_two along.axis front (p ∷ ps)) at none in
    let parts = neither (first_touched along.axis front) (first_touched along.axis (p ∷ ps)) two in
    let here = none_touched along.axis p ps parts.other in
    let others : first_touched along.axis (ps ++ front) ≡ None =
    rw (first_of_two along.axis ps front, here.rest) (parts.one) in
    let next : first_touched along.axis ((front ++ p ∷ []) ++ ps) ≡ None = rw (append_assoc front (p ∷ []) ps) none in
    rw (
      here.head,
      others,
      by_none along (last_touched along.axis None (ps ++ front)) p,
      none_from along (front ++ p ∷ []) ps
          next,
    ) refl

pub untouched_stays : (along : Along) (ps : List Point) → first_touched along.axis ps ≡ None → contour along ps ≡ ps
unfolding contour
untouched_stays along ps none = none_from along [] ps none

-- where no last one is found, no first one is
found_by : (axis : Axis) (t : Bool) (x a : Point) (xs : List Point)
    → ((b : Point) → last_touched axis (Some b) xs ≡ None → ⊥)
    → last_touched axis (if t then Some x else Some a) xs ≡ None → ⊥
found_by axis true x a xs rest h = rest x h
found_by axis false x a xs rest h = rest a h

still_found : (axis : Axis) (a : Point) (ps : List Point) → last_touched axis (Some a) ps ≡ None → ⊥
still_found axis a [] h = cc
still_found axis a (x ∷ xs) h = found_by axis (is_touched axis x) x a xs (λ b. still_found axis b xs) h

no_last_by : (axis : Axis) (t : Bool) (x : Point) (xs : List Point)
    → (last_touched axis None xs ≡ None → first_touched axis xs ≡ None)
    → last_touched axis (if t then Some x else None) xs ≡ None
    → (if t then Some x else first_touched axis xs) ≡ None
no_last_by axis true x xs rest h = absurd (still_found axis x xs h)
no_last_by axis false x xs rest h = rest h

pub no_last : (axis : Axis) (ps : List Point) → last_touched axis None ps ≡ None → first_touched axis ps ≡ None
no_last axis [] h = refl
no_last axis (x ∷ xs) h = no_last_by axis (is_touched axis x) x xs (no_last axis xs) h
