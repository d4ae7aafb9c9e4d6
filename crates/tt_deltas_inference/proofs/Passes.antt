-- A contour, point by point, is the result of a sweep.
use Rattle.std.proofs.Common.{◌≡◌, ◌∙◌, Bool, true, false, if◌then◌else◌, List, [], ◌∷◌, ◌++◌, Option, Some, None, ap, sym, refl, append_assoc}
use Rattle.std.specs.Option.{option_or, unwrap_or}
use Rattle.std.proofs.lemmas.List.{append-nil}
use Rattle.tt_deltas_inference.specs.Inference.{inferred, inferred_by, inferred_among, first_named, last_named, contour_from, contour}
use Rattle.tt_deltas_inference.specs.Sweeps.{swept}
use Rattle.tt_deltas_inference.specs.declared.point.AxisPoint.{AxisPoint}
use Rattle.tt_deltas_inference.proofs.Named.{first_of_two, last_of_two, none_named}

-- the first of two, where their first in the other order is known
other_way : (x y : Option AxisPoint) (first : AxisPoint) → option_or y x ≡ Some first
    → option_or x y ≡ Some (unwrap_or x first)
other_way (Some b) y first h = refl
other_way None (Some b) first h = h
other_way None None first h = absurd cc

-- a point by whether the tuple names it
pub stays : (others : List AxisPoint) (p : AxisPoint) → p.named ≡ true → inferred_among others p ≡ p
stays others p is = ap (λ (b : Bool). if b then p else inferred_by (last_named None others) (first_named others) p) is

moves : (others : List AxisPoint) (p : AxisPoint) → p.named ≡ false
    → inferred_among others p ≡ inferred_by (last_named None others) (first_named others) p
moves others p is = ap (λ (b : Bool). if b then p else inferred_by (last_named None others) (first_named others) p) is

swept_past : (before first p : AxisPoint) (ps : List AxisPoint) → p.named ≡ true
    → swept before first (p ∷ ps) ≡ p ∷ swept p first ps
swept_past before first p ps is =
    ap (λ (b : Bool). if b then p ∷ swept p first ps
    else inferred before (unwrap_or (first_named ps) first) p ∷ swept before first ps) is

swept_on : (before first p : AxisPoint) (ps : List AxisPoint) → p.named ≡ false
    → swept before first (p ∷ ps) ≡ inferred before (unwrap_or (first_named ps) first) p ∷ swept before first ps
swept_on before first p ps is =
    ap (λ (b : Bool). if b then p ∷ swept p first ps
    else inferred before (unwrap_or (first_named ps) first) p ∷ swept before first ps) is

both : (q r : AxisPoint) (qs rs : List AxisPoint) → q ≡ r → qs ≡ rs → q ∷ qs ≡ r ∷ rs
both q r qs rs one others = cc

-- the named points that a sweep carries to the remaining ones
record Carried (before first : AxisPoint) (front back : List AxisPoint) : Type 0 where
  last : last_named None (back ++ front) ≡ Some before
  first_one : first_named (front ++ back) ≡ Some first

step : (before first : AxisPoint) (front : List AxisPoint) (p : AxisPoint) (ps : List AxisPoint) (t : Bool)
    → p.named ≡ t → Carried before first front (p ∷ ps)
    → ((b : AxisPoint) → Carried b first (front ++ p ∷ []) ps
    → contour_from (front ++ p ∷ []) ps ≡ swept b first ps)
    → contour_from front (p ∷ ps) ≡ swept before first (p ∷ ps)
step before first front p ps true is c rest =
    let last : last_named None (ps ++ (front ++ p ∷ [])) ≡ Some p =
    rw (← append_assoc ps front (p ∷ []), last_of_two None (ps ++ front) (p ∷ []), is) refl in
    let next : Carried p first (front ++ p ∷ []) ps =
    record { last = last; first_one = rw (append_assoc front (p ∷ []) ps) (c.first_one) } in
    both _ p _ (swept p first ps) (stays (ps ++ front) p is) (rest p next) ∙ sym (swept_past before first p ps is)
step before first front p ps false is c rest =
    let others = ap (λ (b : Bool). last_named (if b then Some p else None) (ps ++ front)) is in
    let here : last_named None (ps ++ front) ≡ Some before = sym others ∙ c.last in
    let last : last_named None (ps ++ (front ++ p ∷ [])) ≡ Some before =
    rw (← append_assoc ps front (p ∷ []), last_of_two None (ps ++ front) (p ∷ []), is) here in
    let next : Carried before first (front ++ p ∷ []) ps =
    record { last = last; first_one = rw (append_assoc front (p ∷ []) ps) (c.first_one) } in
    let behind : first_named (p ∷ ps) ≡ first_named ps = rw is refl in
    let two = rw (first_of_two front (p ∷ ps), behind) at c.first_one in
    let after : first_named (ps ++ front) ≡ Some (unwrap_or (first_named ps) first) =
    rw (first_of_two ps front) (other_way (first_named ps) (first_named front) first two) in
    let moved : inferred_among (ps ++ front) p ≡ inferred before (unwrap_or (first_named ps) first) p =
    moves (ps ++ front) p is
    ∙ ap (λ (x : Option AxisPoint). inferred_by x (first_named (ps ++ front)) p) here
    ∙ ap (λ (x : Option AxisPoint). inferred_by (Some before) x p) after in
    both _ _ _ (swept before first ps) moved (rest before next) ∙ sym (swept_on before first p ps is)

swept_from : (before first : AxisPoint) (front back : List AxisPoint) → Carried before first front back
    → contour_from front back ≡ swept before first back
swept_from before first front [] c = refl
swept_from before first front (p ∷ ps) c =
    step before first front p ps (p.named) refl c (λ b next. swept_from b first (front ++ p ∷ []) ps next)

pub contour_is_swept : (last first : AxisPoint) (ps : List AxisPoint) → last_named None ps ≡ Some last
    → first_named ps ≡ Some first → contour ps ≡ swept last first ps
unfolding contour
contour_is_swept last first ps behind ahead =
    swept_from last first [] ps (record { last = rw (append-nil ps) behind; first_one = ahead })

-- without a named point
by_none : (x : Option AxisPoint) (p : AxisPoint) → inferred_by x None p ≡ p
by_none (Some a) p = refl
by_none None p = refl

record Neither (x y : Option AxisPoint) : Type 0 where
  one : x ≡ None
  other : y ≡ None

neither : (x y : Option AxisPoint) → option_or x y ≡ None → Neither x y
neither (Some a) y h = absurd cc
neither None y h = record { one = refl; other = h }

none_from : (front back : List AxisPoint) → first_named (front ++ back) ≡ None → contour_from front back ≡ back
none_from front [] none = refl
none_from front (p ∷ ps) none =
    let two = rw (first_of_two front (p ∷ ps)) at none in
    let parts = neither (first_named front) (first_named (p ∷ ps)) two in
    let here = none_named p ps parts.other in
    let others : first_named (ps ++ front) ≡ None = rw (first_of_two ps front, here.rest) (parts.one) in
    let next : first_named ((front ++ p ∷ []) ++ ps) ≡ None = rw (append_assoc front (p ∷ []) ps) none in
    let still : inferred_among (ps ++ front) p ≡ p =
    moves (ps ++ front) p here.head
    ∙ ap (λ (x : Option AxisPoint). inferred_by (last_named None (ps ++ front)) x p) others
    ∙ by_none (last_named None (ps ++ front)) p in
    both _ p _ ps still (none_from (front ++ p ∷ []) ps next)

pub unnamed_stays : (ps : List AxisPoint) → first_named ps ≡ None → contour ps ≡ ps
unfolding contour
unnamed_stays ps none = none_from [] ps none

-- where no last one is found, no first one is
found_by : (t : Bool) (x a : AxisPoint) (xs : List AxisPoint) → ((b : AxisPoint) → last_named (Some b) xs ≡ None → ⊥)
    → last_named (if t then Some x else Some a) xs ≡ None → ⊥
found_by true x a xs rest h = rest x h
found_by false x a xs rest h = rest a h

still_found : (a : AxisPoint) (ps : List AxisPoint) → last_named (Some a) ps ≡ None → ⊥
still_found a [] h = cc
still_found a (x ∷ xs) h = found_by (x.named) x a xs (λ b. still_found b xs) h

no_last_by : (t : Bool) (x : AxisPoint) (xs : List AxisPoint) → (last_named None xs ≡ None → first_named xs ≡ None)
    → last_named (if t then Some x else None) xs ≡ None → (if t then Some x else first_named xs) ≡ None
no_last_by true x xs rest h = absurd (still_found x xs h)
no_last_by false x xs rest h = rest h

pub no_last : (ps : List AxisPoint) → last_named None ps ≡ None → first_named ps ≡ None
no_last [] h = refl
no_last (x ∷ xs) h = no_last_by (x.named) x xs (no_last xs) h
