-- The points of a contour by their numbers.
use Rattle.std.proofs.Common.{◌≡◌, ◌∙◌, ℕ, zero, suc, ◌+◌, ◌-◌, ◌<◌, ◌≤◌, nat_lt, Bool, true, false, if◌then◌else◌, List, [], ◌∷◌, ◌++◌, length, length-append, length-drop, take, drop, get_or, Option, Some, None, ap, refl, arith, append_assoc}
use Rattle.std.proofs.lemmas.Bool.Decides.{nat_tests}
use Rattle.std.proofs.lemmas.List.{append-nil, length-take-le, get_or_append_left, get_or-append_right, get_or-drop, get_or-take}
use Rattle.tt_state.specs.declared.graphics_state.Axis.{Axis}
use Rattle.tt_state.specs.declared.point.Point.{Point}
use Rattle.tt_points_zones.specs.Points.{is_touched}
use Rattle.tt_points_iup.specs.Interpolation.{interpolated, interpolated_among, first_touched, last_touched, contour_from, contour}
use Rattle.tt_points_iup.specs.Neighbours.{round_from, IsNextTouched, IsLastTouched}
use Rattle.tt_points_iup.specs.declared.place.Along.{Along}
use Rattle.tt_points_iup.proofs.Contours.{untouched_stays}

many_from : (along : Along) (front back : List Point) → length (contour_from along front back) ≡ length back
many_from along front [] = refl
many_from along front (p ∷ ps) = ap suc (many_from along (front ++ p ∷ []) ps)

pub many : (along : Along) (ps : List Point) → length (contour along ps) ≡ length ps
unfolding contour
many along ps = many_from along [] ps

each_from : (along : Along) (front back : List Point) (i : ℕ) (d : Point) → i < length back
    → get_or (contour_from along front back) i d
    ≡ interpolated_among along (drop (i + 1) back ++ (front ++ take i back)) (get_or back i d)
each_from along front [] i d inside = absurd (omega arith)
each_from along front (p ∷ ps) zero d inside = rw (append-nil front) refl
each_from along front (p ∷ ps) (suc i) d inside =
    let next : suc i + 1 ≡ suc (i + 1) = omega arith in
    let rest = each_from along (front ++ p ∷ []) ps i d (omega arith) in
    rw next (rw (append_assoc front (p ∷ []) (take i ps)) at rest)

-- the others of a contour, from the one after a point
abbrev others : List Point → ℕ → List Point
others ps i = drop (i + 1) ps ++ take i ps

others_at : (ps : List Point) (i j k : ℕ) (d : Point) (b : Bool) → i < length ps → k ≡ j + 1 → k < length ps
    → nat_lt (i + k) (length ps) ≡ b
    → get_or (others ps i) j d ≡ get_or ps (if b then i + k else (i + k) - length ps) d
others_at ps i j k d true inside is once within =
    let there : i + k < length ps = grind (arith, nat_tests) in
    let long = length-drop (i + 1) ps in
    let at : (i + 1) + j ≡ i + k = omega arith in
    let left = get_or_append_left (drop (i + 1) ps) (take i ps) d j (omega (arith, long)) in
    let dropped = get_or-drop (i + 1) ps j d in
    left ∙ rw at at dropped
others_at ps i j k d false inside is once within =
    let past : length ps ≤ i + k = grind (arith, nat_tests) in
    let long : length (drop (i + 1) ps) ≡ length ps - (i + 1) = length-drop (i + 1) ps in
    let at : j - (length ps - (i + 1)) ≡ (i + k) - length ps = omega arith in
    let right = get_or-append_right (drop (i + 1) ps) (take i ps) (length ps - (i + 1)) j d long (omega arith) in
    let taken = get_or-take i ps ((i + k) - length ps) d (omega arith) in
    (rw at at right) ∙ taken

round_at : (ps : List Point) (i j k : ℕ) (d : Point) → i < length ps → k ≡ j + 1 → k < length ps
    → get_or (others ps i) j d ≡ get_or ps (round_from (length ps) i k) d
round_at ps i j k d inside is once = others_at ps i j k d (nat_lt (i + k) (length ps)) inside is once refl

many_others : (ps : List Point) (i : ℕ) → i < length ps → length (others ps i) + 1 ≡ length ps
many_others ps i inside =
    omega (
      arith,
      length-append (drop (i + 1) ps) (take i ps),
      length-drop (i + 1) ps,
      length-take-le i ps (omega
          arith),
    )

-- the first and the last touched point of a list
first_at : (axis : Axis) (qs : List Point) (k : ℕ) (d : Point) → k < length qs → is_touched axis (get_or qs k d) ≡ true
    → ((j : ℕ) → j < k → is_touched axis (get_or qs j d) ≡ false) → first_touched axis qs ≡ Some (get_or qs k d)
first_at axis [] k d inside here none = absurd (omega arith)
first_at axis (q ∷ qs) zero d inside here none = rw here refl
first_at axis (q ∷ qs) (suc k) d inside here none =
    let head : is_touched axis q ≡ false = none 0 (omega arith) in
    rw head (first_at axis qs k d (omega arith) here (λ j lt. none (suc j) (omega arith)))

none_at : (axis : Axis) (qs : List Point) (d : Point)
    → ((j : ℕ) → j < length qs → is_touched axis (get_or qs j d) ≡ false) → first_touched axis qs ≡ None
none_at axis [] d none = refl
none_at axis (q ∷ qs) d none =
    let head : is_touched axis q ≡ false = none 0 (omega arith) in
    rw head (none_at axis qs d (λ j lt. none (suc j) (omega arith)))

found_kept : (axis : Axis) (found : Option Point) (qs : List Point) (d : Point)
    → ((j : ℕ) → j < length qs → is_touched axis (get_or qs j d) ≡ false) → last_touched axis found qs ≡ found
found_kept axis found [] d none = refl
found_kept axis found (q ∷ qs) d none =
    let head : is_touched axis q ≡ false = none 0 (omega arith) in
    ap (λ (b : Bool). last_touched axis (if b then Some q else found) qs) head
    ∙ found_kept axis found qs d (λ j lt. none (suc j) (omega arith))

last_at : (axis : Axis) (found : Option Point) (qs : List Point) (k : ℕ) (d : Point) → k < length qs
    → is_touched axis (get_or qs k d) ≡ true
    → ((j : ℕ) → k < j → j < length qs → is_touched axis (get_or qs j d) ≡ false)
    → last_touched axis found qs ≡ Some (get_or qs k d)
last_at axis found [] k d inside here none = absurd (omega arith)
last_at axis found (q ∷ qs) zero d inside here none =
    ap (λ (b : Bool). last_touched axis (if b then Some q else found) qs) here
    ∙ found_kept axis (Some q) qs d (λ j lt. none (suc j) (omega arith) (omega arith))
last_at axis found (q ∷ qs) (suc k) d inside here none =
    last_at axis (if is_touched axis q then Some q else found) qs k d (omega arith) here
    (λ j behind lt. none (suc j) (omega arith) (omega arith))

next_is : (axis : Axis) (ps : List Point) (d : Point) (i k : ℕ) → i < length ps → IsNextTouched axis ps d i k
    → first_touched axis (others ps i) ≡ Some (get_or ps (round_from (length ps) i k) d)
next_is axis ps d i k inside next =
    let other = next.there.other in
    let once = next.there.once in
    let count = many_others ps i inside in
    let at = round_at ps i (k - 1) k d inside (omega arith) once in
    let first = first_at axis (others ps i) (k - 1) d (omega arith) (rw at (next.there.touched))
    (λ j lt. rw (round_at ps i j (j + 1) d inside refl (omega arith)) (next.nearest (j + 1) (omega arith) (omega
    arith))) in
    first ∙ ap Some at

last_is : (axis : Axis) (ps : List Point) (d : Point) (i k : ℕ) → i < length ps → IsLastTouched axis ps d i k
    → last_touched axis None (others ps i) ≡ Some (get_or ps (round_from (length ps) i k) d)
last_is axis ps d i k inside last =
    let other = last.there.other in
    let once = last.there.once in
    let count = many_others ps i inside in
    let at = round_at ps i (k - 1) k d inside (omega arith) once in
    let found = last_at axis None (others ps i) (k - 1) d (omega arith) (rw at (last.there.touched))
    (λ j behind lt. rw (round_at ps i j (j + 1) d inside refl (omega arith)) (last.nearest (j + 1) (omega arith)
    (omega arith))) in
    found ∙ ap Some at

pub touched_point : (along : Along) (ps : List Point) (d : Point) (i : ℕ) → i < length ps
    → is_touched along.axis (get_or ps i d) ≡ true → get_or (contour along ps) i d ≡ get_or ps i d
unfolding contour
touched_point along ps d i inside here = each_from along [] ps i d inside ∙ rw here refl

pub between_points : (along : Along) (ps : List Point) (d : Point) (i before after : ℕ) → i < length ps
    → is_touched along.axis (get_or ps i d) ≡ false → IsLastTouched along.axis ps d i before
    → IsNextTouched along.axis ps d i after
    → get_or (contour along ps) i d
    ≡ interpolated along (get_or ps (round_from (length ps) i before) d) (get_or ps (round_from (length ps) i after) d)
    (get_or ps i d)
unfolding contour
between_points along ps d i before after inside here last next =
    each_from along [] ps i d inside
    ∙ rw (here, last_is along.axis ps d i before inside last, next_is along.axis ps d i after inside next) refl

pub none_touched_at : (along : Along) (ps : List Point) (d : Point)
    → ((i : ℕ) → i < length ps → is_touched along.axis (get_or ps i d) ≡ false) → contour along ps ≡ ps
none_touched_at along ps d none = untouched_stays along ps (none_at along.axis ps d none)
