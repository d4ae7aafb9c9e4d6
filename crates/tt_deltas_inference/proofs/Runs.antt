-- A sweep up to the next named point, or to the end without one.
use Rattle.std.proofs.Common.{◌≡◌, ℕ, suc, ◌+◌, ◌<◌, true, List, [], ◌∷◌, ◌++◌, length, map, take, drop, get_or, Some, None, ap, refl, arith, append_assoc, length-append, length-drop}
use Rattle.std.proofs.lemmas.List.{append-nil, take_all, drop_all, drop_more, take-append-drop, length-map, length-take}
use Rattle.tt_deltas_inference.specs.Bounds.{IsGiven}
use Rattle.tt_deltas_inference.specs.Inference.{inferred, first_named}
use Rattle.tt_deltas_inference.specs.Sweeps.{swept, IsRun}
use Rattle.tt_deltas_inference.specs.declared.point.AxisPoint.{AxisPoint}
use Rattle.tt_deltas_inference.proofs.Named.{none_named, first_after}

run_last : (before first : AxisPoint) (us : List AxisPoint) → first_named us ≡ None
    → swept before first us ≡ map (inferred before first) us
run_last before first [] none = refl
run_last before first (u ∷ us) none =
    let parts = none_named u us none in
    rw (parts.head, parts.rest, run_last before first us parts.rest) refl

run_to : (before first : AxisPoint) (us : List AxisPoint) (t : AxisPoint) (vs : List AxisPoint)
    → first_named us ≡ None → t.named ≡ true
    → swept before first (us ++ t ∷ vs) ≡ map (inferred before t) us ++ t ∷ swept t first vs
run_to before first [] t vs none here = rw here refl
run_to before first (u ∷ us) t vs none here =
    let parts = none_named u us none in
    let next : first_named (us ++ t ∷ vs) ≡ Some t = rw (first_after us (t ∷ vs) parts.rest, here) refl in
    rw (parts.head, next, run_to before first us t vs parts.rest here) refl

-- a list split at one of its points
at_point : (ps : List AxisPoint) (n : ℕ) (d : AxisPoint) → n < length ps
    → take n ps ++ get_or ps n d ∷ drop (n + 1) ps ≡ ps
at_point ps n d inside = rw (← drop_more ps n d inside) (take-append-drop n ps)

one_past : (part : List AxisPoint) (t : AxisPoint) (vs : List AxisPoint)
    → take (suc (length part)) (part ++ t ∷ vs) ≡ part ++ t ∷ []
one_past [] t vs = refl
one_past (p ∷ part) t vs = rw (one_past part t vs) refl

after_it : (part : List AxisPoint) (t : AxisPoint) (vs : List AxisPoint)
    → drop (suc (length part)) (part ++ t ∷ vs) ≡ vs
after_it [] t vs = refl
after_it (p ∷ part) t vs = after_it part t vs

past_at : (m : ℕ) (part : List AxisPoint) (t : AxisPoint) (vs : List AxisPoint) → m ≡ suc (length part)
    → (take m (part ++ t ∷ vs) ≡ part ++ t ∷ []) × (drop m (part ++ t ∷ vs) ≡ vs)
past_at m part t vs e = (rw e (one_past part t vs), rw e (after_it part t vs))

-- a run to the end
pub run_ends : (before first : AxisPoint) (old new : List AxisPoint) (n : ℕ) → 0 < length old → n ≡ length old
    → first_named (take n old) ≡ None → new ≡ map (inferred before first) old → IsGiven before
    → IsRun before first old new n before
run_ends before first old new n some long none is given =
    let f = inferred before first in
    let whole = take_all n old (omega arith) in
    let unnamed : first_named old ≡ None = rw whole at none in
    let same : length new ≡ length old = rw is (length-map old f) in
    let all = take_all n new (omega arith) in
    let past = drop_all n old (omega arith) in
    let gone = drop_all n new (omega arith) in
    record {
      more = omega arith;
      bound = omega arith;
      many = same;
      so_far = rw (all, past, append-nil new, run_last before first old unnamed) is;
      rest = rw (past, gone) refl;
      given = given;
    }

-- a run up to a named point
to_point : (before first : AxisPoint) (old : List AxisPoint) (n : ℕ) (d : AxisPoint) → n < length old
    → first_named (take n old) ≡ None → (get_or old n d).named ≡ true
    → swept before first old ≡ map (inferred before (get_or old n d)) (take n old)
    ++ get_or old n d ∷ swept (get_or old n d) first (drop (n + 1) old)
to_point before first old n d inside none here =
    let run = run_to before first (take n old) (get_or old n d) (drop (n + 1) old) none here in
    rw (at_point old n d inside) at run

pub run_goes : (before first : AxisPoint) (old part : List AxisPoint) (n : ℕ) (d : AxisPoint) → n < length old
    → first_named (take n old) ≡ None → (get_or old n d).named ≡ true
    → part ≡ map (inferred before (get_or old n d)) (take n old) → IsGiven (get_or old n d)
    → IsRun before first old (part ++ drop n old) (n + 1) (get_or old n d)
run_goes before first old part n d inside none here is given =
    let t = get_or old n d in
    let f = inferred before t in
    let long : length part ≡ n = rw (is, length-map (take n old) f) (omega (arith, length-take n old)) in
    let next : n + 1 ≡ suc (length part) = omega arith in
    let vs = drop (n + 1) old in
    let split : part ++ drop n old ≡ part ++ t ∷ vs = ap (λ (l : List AxisPoint). part ++ l) (drop_more old n d inside)
    in
    let past = past_at (n + 1) part t vs next in
    let run : swept before first old ≡ part ++ t ∷ swept t first vs =
    rw is (to_point before first old n d inside none here) in
    record {
      more = omega arith;
      bound = omega arith;
      many = omega (arith, length-append part (drop n old), length-drop n old, long, inside);
      so_far = rw (split, past.0, run) (append_assoc part (t ∷ []) (swept t first vs));
      rest = rw split (past.1);
      given = given;
    }
