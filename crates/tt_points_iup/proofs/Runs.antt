-- A sweep up to the next touched point, or to the end without one.
use Rattle.std.proofs.Common.{◌≡◌, ℕ, suc, ◌+◌, ◌<◌, true, List, [], ◌∷◌, ◌++◌, length, map, take, drop, get_or, Some, None, Ok, Err, ap, sym, refl, arith, append_assoc, length-append, length-drop}
use Rattle.std.proofs.lemmas.List.{append-nil, take_all, drop_all, drop_more, take-append-drop, length-map, length-take}
use Rattle.tt_core.specs.declared.fault.Why.{Why}
use Rattle.tt_state.specs.declared.point.Point.{Point}
use Rattle.tt_points_zones.specs.Points.{is_touched}
use Rattle.tt_points_iup.specs.Interpolation.{interpolated, first_touched, limited}
use Rattle.tt_points_iup.specs.Sweeps.{swept, IsRun}
use Rattle.tt_points_iup.specs.declared.place.Along.{Along}
use Rattle.tt_points_iup.proofs.Limits.{limited_before, whole_ok}
use Rattle.tt_points_iup.proofs.Touches.{none_touched, first_after}

run_last : (along : Along) (before first : Point) (us : List Point) → first_touched along.axis us ≡ None
    → swept along before first us ≡ map (interpolated along before first) us
run_last along before first [] none = refl
run_last along before first (u ∷ us) none =
    let parts = none_touched along.axis u us none in
    rw (parts.head, parts.rest, run_last along before first us parts.rest) refl

run_to : (along : Along) (before first : Point) (us : List Point) (t : Point) (vs : List Point)
    → first_touched along.axis us ≡ None
    → is_touched along.axis t ≡ true
    → swept along before first (us ++ t ∷ vs) ≡ map (interpolated along before t) us ++ t ∷ swept along t first vs
run_to along before first [] t vs none here = rw here refl
run_to along before first (u ∷ us) t vs none here =
    let parts = none_touched along.axis u us none in
    let next : first_touched along.axis (us ++ t ∷ vs) ≡ Some t =
    rw (first_after along.axis us (t ∷ vs) parts.rest, here) refl in
    rw (parts.head, next, run_to along before first us t vs parts.rest here) refl

-- a list split at one of its points
at_point : (ps : List Point) (n : ℕ) (d : Point) → n < length ps → take n ps ++ get_or ps n d ∷ drop (n + 1) ps ≡ ps
at_point ps n d inside = rw (← drop_more ps n d inside) (take-append-drop n ps)

one_past : (part : List Point) (t : Point) (vs : List Point)
    → take (suc (length part)) (part ++ t ∷ vs) ≡ part ++ t ∷ []
one_past [] t vs = refl
one_past (p ∷ part) t vs = rw (one_past part t vs) refl

after_it : (part : List Point) (t : Point) (vs : List Point) → drop (suc (length part)) (part ++ t ∷ vs) ≡ vs
after_it [] t vs = refl
after_it (p ∷ part) t vs = after_it part t vs

past_at : (m : ℕ) (part : List Point) (t : Point) (vs : List Point) → m ≡ suc (length part)
    → (take m (part ++ t ∷ vs) ≡ part ++ t ∷ []) × (drop m (part ++ t ∷ vs) ≡ vs)
past_at m part t vs e = (rw e (one_past part t vs), rw e (after_it part t vs))

pub run_ends : (along : Along) (before first : Point) (old new : List Point) (n : ℕ) → 0 < length old → n ≡ length old
    → first_touched along.axis (take n old) ≡ None
    → limited along.axis (map (interpolated along before first) old) ≡ Ok new
    → IsRun along before first old new n before
run_ends along before first old new n some long none made =
    let f = interpolated along before first in
    let is : map f old ≡ new = whole_ok along.axis (map f old) new made in
    let whole = take_all n old (omega arith) in
    let untouched : first_touched along.axis old ≡ None = rw whole at none in
    let same : length new ≡ length old = rw (← is) (length-map old f) in
    let all = take_all n new (omega arith) in
    let past = drop_all n old (omega arith) in
    let gone = drop_all n new (omega arith) in
    record {
      more = omega arith;
      bound = omega arith;
      many = same;
      so_far = rw (all, past, append-nil new, run_last along before first old untouched) (sym is);
      rest = rw (past, gone) refl;
    }

pub run_ends_outside : (along : Along) (before first : Point) (old : List Point) (n : ℕ) (fault : Why) → n ≡ length old
    → first_touched along.axis (take n old) ≡ None
    → limited along.axis (map (interpolated along before first) old) ≡ Err fault
    → limited along.axis (swept along before first old) ≡ Err fault
run_ends_outside along before first old n fault long none bad =
    let whole = take_all n old (omega arith) in
    let untouched : first_touched along.axis old ≡ None = rw whole at none in
    rw (run_last along before first old untouched) bad

-- a sweep up to a touched point
to_point : (along : Along) (before first : Point) (old : List Point) (n : ℕ) (d : Point) → n < length old
    → first_touched along.axis (take n old) ≡ None → is_touched along.axis (get_or old n d) ≡ true
    → swept along before first old ≡ map (interpolated along before (get_or old n d)) (take n old)
    ++ get_or old n d ∷ swept along (get_or old n d) first (drop (n + 1) old)
to_point along before first old n d inside none here =
    let run = run_to along before first (take n old) (get_or old n d) (drop (n + 1) old) none here in
    rw (at_point old n d inside) at run

pub run_goes : (along : Along) (before first : Point) (old part : List Point) (n : ℕ) (d : Point) → n < length old
    → first_touched along.axis (take n old) ≡ None → is_touched along.axis (get_or old n d) ≡ true
    → limited along.axis (map (interpolated along before (get_or old n d)) (take n old)) ≡ Ok part
    → IsRun along before first old (part ++ drop n old) (n + 1) (get_or old n d)
run_goes along before first old part n d inside none here made =
    let t = get_or old n d in
    let f = interpolated along before t in
    let is : map f (take n old) ≡ part = whole_ok along.axis (map f (take n old)) part made in
    let long : length part ≡ n = rw (← is, length-map (take n old) f) (omega (arith, length-take n old)) in
    let next : n + 1 ≡ suc (length part) = omega arith in
    let vs = drop (n + 1) old in
    let split : part ++ drop n old ≡ part ++ t ∷ vs = ap (λ (l : List Point). part ++ l) (drop_more old n d inside) in
    let past = past_at (n + 1) part t vs next in
    let run = to_point along before first old n d inside none here in
    let made_so = append_assoc part (t ∷ []) (swept along t first (drop (n + 1) old)) in
    record {
      more = omega arith;
      bound = omega arith;
      many = omega (arith, length-append part (drop n old), length-drop n old, long, inside);
      so_far = rw (split, past.0, run, is) made_so;
      rest = rw split (past.1);
    }

pub run_goes_outside : (along : Along) (before first : Point) (old : List Point) (n : ℕ) (d : Point) (fault : Why)
    → n < length old → first_touched along.axis (take n old) ≡ None → is_touched along.axis (get_or old n d) ≡ true
    → limited along.axis (map (interpolated along before (get_or old n d)) (take n old)) ≡ Err fault
    → limited along.axis (swept along before first old) ≡ Err fault
run_goes_outside along before first old n d fault inside none here bad =
    rw (to_point along before first old n d inside none here) (limited_before along.axis
    (map (interpolated along before (get_or old n d)) (take n old))
    (get_or old n d ∷ swept along (get_or old n d) first (drop (n + 1) old)) fault bad)

-- a run up to a touched point, by the remaining points
pub run_reaches : (along : Along) (before first after : Point) (old new : List Point) (n : ℕ) (d : Point)
    → n < length old → first_touched along.axis (take n old) ≡ None → is_touched along.axis (get_or old n d) ≡ true
    → after ≡ get_or old n d → limited along.axis (map (interpolated along before after) (take n old)) ≡ Ok (take n new)
    → drop n new ≡ drop n old → IsRun along before first old new (n + 1) after
run_reaches along before first after old new n d inside none here is made back =
    let run = run_goes along before first old (take n new) n d inside none here (rw is at made) in
    let whole : take n new ++ drop n old ≡ new = rw (← back) (take-append-drop n new) in
    rw is (rw whole at run)

pub run_reaches_outside : (along : Along) (before first after : Point) (old : List Point) (n : ℕ) (d : Point)
    (fault : Why)
    → n < length old → first_touched along.axis (take n old) ≡ None → is_touched along.axis (get_or old n d) ≡ true
    → after ≡ get_or old n d → limited along.axis (map (interpolated along before after) (take n old)) ≡ Err fault
    → limited along.axis (swept along before first old) ≡ Err fault
run_reaches_outside along before first after old n d fault inside none here is bad =
    run_goes_outside along before first old n d fault inside none here (rw is at bad)

-- a run to the end, by the remaining points
pub run_finishes : (along : Along) (before first : Point) (old new : List Point) (n : ℕ) → 0 < length old
    → n ≡ length old → length new ≡ length old → first_touched along.axis (take n old) ≡ None
    → limited along.axis (map (interpolated along before first) (take n old)) ≡ Ok (take n new)
    → IsRun along before first old new n before
run_finishes along before first old new n some long same none made =
    let all = take_all n old (omega arith) in
    let now = take_all n new (omega arith) in
    run_ends along before first old new n some long none (rw (all, now) at made)

pub run_finishes_outside : (along : Along) (before first : Point) (old : List Point) (n : ℕ) (fault : Why)
    → n ≡ length old → first_touched along.axis (take n old) ≡ None
    → limited along.axis (map (interpolated along before first) (take n old)) ≡ Err fault
    → limited along.axis (swept along before first old) ≡ Err fault
run_finishes_outside along before first old n fault long none bad =
    let all = take_all n old (omega arith) in
    run_ends_outside along before first old n fault long none (rw all at bad)
