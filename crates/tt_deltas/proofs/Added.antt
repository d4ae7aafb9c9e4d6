-- The sums of deltas, coordinate by coordinate.
use Rattle.std.proofs.Common.{◌≡◌, ◌∙◌, ℕ, zero, suc, ◌+◌, ◌<◌, ◌≤◌, ◌^◌, pos, false, List, [], ◌∷◌, length, take, drop, get_or, set, All, ap, refl, arith}
use Rattle.std.proofs.lemmas.Grind.{drop_more_same}
use Rattle.std.proofs.lemmas.Int.{ints}
use Rattle.std.proofs.lemmas.List.{take_more, take_more_set, drop_more, drop-set-lt, take_all}
use Rattle.std.proofs.lemmas.List.Elements.{All-nil, All-cons, All-head, All-tail, All-weaker}
use Rattle.tt_deltas_inference.specs.Bounds.{IsInferred}
use Rattle.tt_deltas_inference.specs.declared.point.AxisPoint.{AxisPoint}
use Rattle.tt_deltas.specs.Along.{IsWithin, added, moved_by}
use Rattle.tt_deltas.specs.declared.varied.Varied.{Varied}

-- reads past the ends of lists
abbrev pub no_value : Varied
no_value = record { at = pos 0; delta = pos 0 }

abbrev pub no_point : AxisPoint
no_point = record { named = false; at = pos 0; delta = pos 0 }

pub many : (vs : List Varied) (ps : List AxisPoint) → length (added vs ps) ≡ length vs
many [] ps = refl
many (v ∷ vs) [] = refl
many (v ∷ vs) (p ∷ ps) = ap suc (many vs ps)

each : (vs : List Varied) (ps : List AxisPoint) (i : ℕ) → i < length vs → i < length ps
    → get_or (added vs ps) i no_value ≡ moved_by (get_or vs i no_value) (get_or ps i no_point)
each [] ps i there other = absurd (omega arith)
each (v ∷ vs) [] i there other = absurd (omega arith)
each (v ∷ vs) (p ∷ ps) zero there other = refl
each (v ∷ vs) (p ∷ ps) (suc i) there other = each vs ps i (omega arith) (omega arith)

-- lists that agree from a place on have the same element there
pub same_value : (now old : List Varied) (i : ℕ) → i < length now → i < length old → drop i now ≡ drop i old
    → get_or now i no_value ≡ get_or old i no_value
same_value now old i here there same =
    let x = drop_more now i no_value here in let y = drop_more old i no_value there in cc

pub more : (now old : List Varied) (ps : List AxisPoint) (i : ℕ) (q : Varied) → i < length now → i < length old
    → i < length ps → take i now ≡ take i (added old ps) → drop i now ≡ drop i old
    → q ≡ moved_by (get_or now i no_value) (get_or ps i no_point)
    → take (i + 1) (set now i q) ≡ take (i + 1) (added old ps)
more now old ps i q here there other so_far rest is =
    let long : i < length (added old ps) = omega (arith, many old ps) in
    let made : q ≡ get_or (added old ps) i no_value =
    is ∙ ap (λ (v : Varied). moved_by v (get_or ps i no_point)) (same_value now old i here there rest)
    ∙ rw (each old ps i there other) refl in
    rw (take_more_set now i q here, take_more (added old ps) i no_value long, so_far, made) refl

pub rest_more : (now old : List Varied) (i : ℕ) (q : Varied) → drop i now ≡ drop i old
    → drop (i + 1) (set now i q) ≡ drop (i + 1) old
rest_more now old i q rest = drop-set-lt (i + 1) now i q (omega arith) ∙ drop_more_same now old i rest

pub whole : (now old : List Varied) (ps : List AxisPoint) (i : ℕ) → length now ≤ i → length now ≡ length old
    → take i now ≡ take i (added old ps) → now ≡ added old ps
whole now old ps i past long so_far =
    let all = take_all i now past in
    let every = take_all i (added old ps) (omega (arith, many old ps)) in
    cc

sum_within : (most : ℕ) (v : Varied) (p : AxisPoint) → IsWithin most v → IsInferred p
    → IsWithin (most + 2 ^ 34) (moved_by v p)
sum_within most v p one other = omega (arith, ints)

looser : (most : ℕ) (v : Varied) → IsWithin most v → IsWithin (most + 2 ^ 34) v
looser most v one = omega arith

pub within : (most : ℕ) (vs : List Varied) (ps : List AxisPoint) → All (IsWithin most) vs → All IsInferred ps
    → All (IsWithin (most + 2 ^ 34)) (added vs ps)
within most [] ps values points = All-nil (IsWithin (most + 2 ^ 34))
within most (v ∷ vs) [] values points =
    All-cons (IsWithin (most + 2 ^ 34)) v vs (looser most v (All-head (IsWithin most) v vs values))
    (All-weaker (IsWithin most) (IsWithin (most + 2 ^ 34)) (λ w. looser most w) vs (All-tail (IsWithin most) v vs values))
within most (v ∷ vs) (p ∷ ps) values points =
    All-cons (IsWithin (most + 2 ^ 34)) (moved_by v p) (added vs ps)
    (sum_within most v p (All-head (IsWithin most) v vs values) (All-head IsInferred p ps points))
    (within most vs ps (All-tail (IsWithin most) v vs values) (All-tail IsInferred p ps points))
