-- The points along an axis, made one after another.
use Rattle.std.proofs.Common.{◌≡◌, ◌≢◌, ◌∙◌, ℕ, zero, suc, ◌+◌, ◌<◌, ◌≤◌, ℤ, pos, true, false, List, [], ◌∷◌, ◌++◌, length, take, get_or, slice_index, Option, Some, None, All, ap, sym, inl, inr, refl, arith, add-zero, zero-add}
use Rattle.std.specs.Prelude.{◌==◌}
use Rattle.std.proofs.lemmas.Bool.{cases_order}
use Rattle.std.proofs.lemmas.Bool.Decides.{nat_tests}
use Rattle.std.proofs.lemmas.List.{take_more, length-take-le}
use Rattle.std.proofs.lemmas.List.Elements.{All-nil, All-cons}
use Rattle.std.proofs.lemmas.Option.{slice_get-get_or}
use Rattle.tt_deltas_inference.specs.declared.point.AxisPoint.{AxisPoint}
use Rattle.tt_deltas.specs.Along.{IsPlaceFor, Rises, axis_point, axis_points, listed_delta, own_delta}
use Rattle.tt_deltas.specs.declared.varied.Varied.{Varied}
use Rattle.tt_deltas.proofs.Added.{no_value}

pub many : (share : ℕ) (numbers : Option (List ℕ)) (deltas : List ℤ) (i : ℕ) (vs : List Varied)
    → length (axis_points share numbers deltas i vs) ≡ length vs
many share numbers deltas i [] = refl
many share numbers deltas i (v ∷ vs) = ap suc (many share numbers deltas (i + 1) vs)

more_from : (share : ℕ) (numbers : Option (List ℕ)) (deltas : List ℤ) (i : ℕ) (vs : List Varied) (v : Varied)
    → axis_points share numbers deltas i (vs ++ v ∷ []) ≡ axis_points share numbers deltas i vs
    ++ axis_point share v.at (own_delta numbers deltas (i + length vs)) ∷ []
more_from share numbers deltas i [] v = rw (add-zero i) refl
more_from share numbers deltas i (w ∷ vs) v =
    let rest = more_from share numbers deltas (i + 1) vs v in
    let place : i + suc (length vs) ≡ (i + 1) + length vs = omega arith in
    rw (place, rest) refl

pub more : (share : ℕ) (numbers : Option (List ℕ)) (deltas : List ℤ) (vs : List Varied) (made : List AxisPoint) (i : ℕ)
    (p : AxisPoint) → i < length vs → made ≡ axis_points share numbers deltas 0 (take i vs)
    → p ≡ axis_point share (get_or vs i no_value).at (own_delta numbers deltas i)
    → made ++ p ∷ [] ≡ axis_points share numbers deltas 0 (take (i + 1) vs)
more share numbers deltas vs made i p there so_far is =
    let long : 0 + length (take i vs) ≡ i = omega (arith, length-take-le i vs (omega arith)) in
    let next = more_from share numbers deltas 0 (take i vs) (get_or vs i no_value) in
    rw (take_more vs i no_value there, next, long, so_far, is) refl

-- a tuple without numbers names each point
named_from : (share : ℕ) (deltas : List ℤ) (i : ℕ) (vs : List Varied) → i + length vs ≤ length deltas
    → All (λ p. p.named ≡ true) (axis_points share None deltas i vs)
named_from share deltas i [] room = All-nil (λ p. p.named ≡ true)
named_from share deltas i (v ∷ vs) room =
    let there = slice_get-get_or deltas i (pos 0) (omega arith) in
    All-cons (λ p. p.named ≡ true) (axis_point share v.at (own_delta None deltas i))
    (axis_points share None deltas (i + 1) vs) (ap (λ (d : Option ℤ). (axis_point share v.at d).named) there)
    (named_from share deltas (i + 1) vs (omega arith))

pub all_named : (share : ℕ) (deltas : List ℤ) (vs : List Varied) → length deltas ≡ length vs
    → All (λ p. p.named ≡ true) (axis_points share None deltas 0 vs)
all_named share deltas vs long = named_from share deltas 0 vs (omega (arith, zero-add (length vs)))

-- a number of a list, and a number that is not listed
pub at_place : (ns : List ℕ) (ds : List ℤ) (i k : ℕ) → k < length ns → length ds ≡ length ns
    → ((j : ℕ) → j < k → slice_index ns j < i) → slice_index ns k ≡ i
    → listed_delta ns ds i ≡ Some (get_or ds k (pos 0))
at_place [] ds i k there long before is = absurd (omega arith)
at_place (n ∷ ns) [] i k there long before is = absurd (omega arith)
at_place (n ∷ ns) (d ∷ ds) i zero there long before is = let here : (n == i) ≡ true = grind (arith, nat_tests) in rw here refl
at_place (n ∷ ns) (d ∷ ds) i (suc k) there long before is =
    let less : n < i = before 0 (omega arith) in
    let other : (n == i) ≡ false = grind (arith, nat_tests) in
    rw other (at_place ns ds i k (omega arith) (omega arith) (λ j h. before (suc j) (omega arith)) is)

pub no_place : (ns : List ℕ) (ds : List ℤ) (i : ℕ) → ((j : ℕ) → j < length ns → slice_index ns j ≢ i)
    → listed_delta ns ds i ≡ None
no_place [] ds i other = refl
no_place (n ∷ ns) [] i other = refl
no_place (n ∷ ns) (d ∷ ds) i other =
    let less : n ≢ i = other 0 (omega arith) in
    let here : (n == i) ≡ false = grind (arith, nat_tests) in
    rw here (no_place ns ds i (λ j h. other (suc j) (omega arith)))

by_order : {P : Type 0} (j k : ℕ) → (j < k → P) → (j ≡ k → P) → (k < j → P) → P
by_order j k less equal more =
    elim (cases_order j k) [ inl e ↦ equal e | inr rest ↦ elim rest [ inl l ↦ less l | inr m ↦ more m ] ]

-- no number is that of a point whose place is past the list, or has another number
pub past_all : (ns : List ℕ) (i k j : ℕ) → IsPlaceFor ns i k → length ns ≤ k → j < length ns → slice_index ns j ≡ i → ⊥
past_all ns i k j place past there same = let less = place.before j (omega arith) in omega arith

pub passed_by : (ns : List ℕ) (i k j : ℕ) → Rises ns → IsPlaceFor ns i k → k < length ns → slice_index ns k ≢ i
    → j < length ns → slice_index ns j ≡ i → ⊥
passed_by ns i k j rises place within other there same =
    by_order j k (λ less. let before = place.before j less in omega arith)
    (λ equal. other (ap (λ (n : ℕ). slice_index ns n) (sym equal) ∙ same))
    (λ more. let here = place.after k (omega arith) within in let above = rises k j more there in omega arith)
