-- Points of a range, by their numbers.
use Rattle.std.proofs.Common.{◌≡◌, ℕ, zero, suc, ◌+◌, ◌<◌, ◌≤◌, ◌&&◌, nat_le, nat_lt, true, false, List, [], ◌∷◌, length, get_or, set, Result, Ok, Err, ap, ◌∙◌, sym, refl, arith}
use Rattle.std.proofs.lemmas.Bool.Decides.{nat_tests}
use Rattle.tt_core.specs.Outcomes.{◌>>=◌}
use Rattle.tt_core.specs.declared.fault.Why.{Why}
use Rattle.tt_state.specs.declared.point.Point.{Point}
use Rattle.tt_points_loops.specs.Series.{each_from_to}

-- whether a number is in a range
within : (low past i : ℕ) → low ≤ i → i < past → (nat_le low i && nat_lt i past) ≡ true
within low past i above below = grind (arith, nat_tests)

before : (low past i : ℕ) → i < low → (nat_le low i && nat_lt i past) ≡ false
before low past i below = grind (arith, nat_tests)

in_none : (low past i : ℕ) → past ≤ low → (nat_le low i && nat_lt i past) ≡ false
in_none low past i empty = grind (arith, nat_tests)

-- chains of steps
same_after : {A B : Type 0} (r : Result A Why) (f g : A → Result B Why) → ((x : A) → f x ≡ g x) → (r >>= f) ≡ (r >>= g)
same_after (Ok x) f g same = same x
same_after (Err e) f g same = refl

in_turn : {A B C : Type 0} (r : Result A Why) (f : A → Result B Why) (g : B → Result C Why)
    → ((r >>= f) >>= g) ≡ (r >>= λ x. f x >>= g)
in_turn (Ok x) f g = refl
in_turn (Err e) f g = refl

abbrev Move : Type 0
Move = ℕ → Point → Result Point Why

-- a point outside the range, and one within
passed_by : (move : Move) (low past at : ℕ) (p : Point) (ps : List Point) → (nat_le low at && nat_lt at past) ≡ false
    → each_from_to low past move at (p ∷ ps) ≡ (each_from_to low past move (suc at) ps >>= λ qs. Ok (p ∷ qs))
passed_by move low past at p ps not = rw not refl

chosen : (move : Move) (low past at : ℕ) (p : Point) (ps : List Point) → (nat_le low at && nat_lt at past) ≡ true
    → each_from_to low past move at (p ∷ ps)
    ≡ (move at p >>= λ q. each_from_to low past move (suc at) ps >>= λ qs. Ok (q ∷ qs))
chosen move low past at p ps is = rw is refl

-- past its first point, a range is the same as without that point
behind : (move : Move) (low past at : ℕ) (ps : List Point) → low < at
    → each_from_to low past move at ps ≡ each_from_to (suc low) past move at ps
behind move low past at [] below = refl
behind move low past at (p ∷ ps) below =
    let same : (nat_le low at && nat_lt at past) ≡ (nat_le (suc low) at && nat_lt at past) = grind (arith, nat_tests) in
    let rest = behind move low past (suc at) ps (omega arith) in
    rw (same, rest) refl

-- no point is in an empty range
pub none_left : (move : Move) (low past at : ℕ) (ps : List Point) → past ≤ low
    → each_from_to low past move at ps ≡ Ok ps
none_left move low past at [] empty = refl
none_left move low past at (p ∷ ps) empty =
    passed_by move low past at p ps (in_none low past at empty) ∙ rw (none_left move low past (suc at) ps empty) refl

-- the first point of a range, followed by the others
first_of : (move : Move) (low past at k : ℕ) (ps : List Point) (d : Point) → low ≡ at + k → low < past → k < length ps
    → each_from_to low past move at ps
    ≡ (move low (get_or ps k d) >>= λ q. each_from_to (suc low) past move at (set ps k q))
first_of move low past at k [] d is some there = absurd (omega arith)
first_of move low past at zero (p ∷ ps) d is some there =
    let here : at ≡ low = omega arith in
    let all = chosen move low past at p ps (within low past at (omega arith) (omega arith)) in
    let rest = behind move low past (suc at) ps (omega arith) in
    let next : (q : Point) → (each_from_to low past move (suc at) ps >>= λ qs. Ok (q ∷ qs))
    ≡ each_from_to (suc low) past move at (q ∷ ps) =
    λ q. rw rest (sym (passed_by move (suc low) past at q ps (before (suc low) past at (omega arith)))) in
    all ∙ same_after (move at p) _ _ next
    ∙ ap (λ i. move i p >>= λ q. each_from_to (suc low) past move at (q ∷ ps)) here
first_of move low past at (suc k) (p ∷ ps) d is some there =
    let all = passed_by move low past at p ps (before low past at (omega arith)) in
    let on = first_of move low past (suc at) k ps d (omega arith) some (omega arith) in
    let next : (q : Point) → (each_from_to (suc low) past move (suc at) (set ps k q) >>= λ qs. Ok (p ∷ qs))
    ≡ each_from_to (suc low) past move at (p ∷ set ps k q) =
    λ q. sym (passed_by move (suc low) past at p (set ps k q) (before (suc low) past at (omega arith))) in
    all ∙ ap (λ r. r >>= λ qs. Ok (p ∷ qs)) on
    ∙ in_turn (move low (get_or ps k d)) (λ q. each_from_to (suc low) past move (suc at) (set ps k q))
    (λ qs. Ok (p ∷ qs))
    ∙ same_after (move low (get_or ps k d)) _ _ next

-- the remaining steps after one that succeeds
pub further : (move : Move) (i past : ℕ) (ps : List Point) (d q : Point) (whole : Result (List Point) Why) → i < past
    → i < length ps → each_from_to i past move 0 ps ≡ whole → move i (get_or ps i d) ≡ Ok q
    → each_from_to (i + 1) past move 0 (set ps i q) ≡ whole
further move i past ps d q whole some there so_far came =
    let one : i + 1 ≡ suc i = omega arith in
    let all = first_of move i past 0 i ps d (omega arith) some there in
    rw one (sym (all ∙ rw came refl) ∙ so_far)

-- the remaining steps after one that is refused
pub refused : (move : Move) (i past : ℕ) (ps : List Point) (d : Point) (e : Why) (whole : Result (List Point) Why)
    → i < past → i < length ps → each_from_to i past move 0 ps ≡ whole → move i (get_or ps i d) ≡ Err e → whole ≡ Err e
refused move i past ps d e whole some there so_far came =
    sym so_far ∙ first_of move i past 0 i ps d (omega arith) some there ∙ rw came refl
