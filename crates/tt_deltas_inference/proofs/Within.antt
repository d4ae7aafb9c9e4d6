-- How far an inferred point moves at most.
use Rattle.std.proofs.Common.{◌≡◌, ◌∙◌, Bool, true, false, if◌then◌else◌, ℕ, zero, suc, ◌+◌, ◌-◌, ◌*◌, ◌/◌, ◌≤◌, ◌^◌, ℤ, pos, negsuc, neg_ℤ, ◌+ℤ◌, ◌-ℤ◌, ◌*ℤ◌, ◌<ℤ◌, int_le, int_lt, unsigned_abs, List, [], ◌∷◌, ◌++◌, drop, take, Option, Some, None, All, IfSome, ap, refl, arith}
use Rattle.std.proofs.Math.Nat.{mul-div-le, mul-le-mul_right}
use Rattle.std.specs.Ordering.{int_eq}
use Rattle.std.proofs.lemmas.Int.{ints, unsigned_abs-mul}
use Rattle.std.proofs.lemmas.List.Elements.{All-nil, All-cons, All-head, All-tail, All-append, All-take, All-drop, All-weaker}
use Rattle.tt_core.specs.Products.{mul_diff}
use Rattle.tt_core.specs.Scales.{away_quotient}
use Rattle.tt_deltas_inference.specs.Bounds.{IsGiven, IsInferred}
use Rattle.tt_deltas_inference.specs.Inference.{moved, rate, in_proportion, placed, inferred, inferred_by, inferred_among, first_named, last_named, contour_from, contour, contours}
use Rattle.tt_deltas_inference.specs.declared.point.AxisPoint.{AxisPoint}
use Rattle.tt_deltas_inference.proofs.Proportions.{forward, backward, way_is, rate_is, proportion_is}

-- the magnitude of a quotient
abs_neg : (m : ℕ) → unsigned_abs (neg_ℤ (pos m)) ≡ m
abs_neg zero = refl
abs_neg (suc m) = refl

magnitude : (w : ℤ) (r : ℕ) → unsigned_abs (away_quotient w (pos r)) ≡ (2 * unsigned_abs w + r) / (2 * r)
magnitude (pos n) r = ap unsigned_abs (forward n r)
magnitude (negsuc n) r = ap unsigned_abs (backward n r) ∙ abs_neg ((2 * suc n + r) / (2 * r))

share_within : (w r x : ℕ) → x ≤ r → x * ((2 * w + r) / (2 * r)) ≤ w + r
share_within w r x h =
    let q = (2 * w + r) / (2 * r) in
    let most = mul-div-le (2 * w + r) (2 * r) in
    let less = mul-le-mul_right q h in
    omega arith

within_sum : (d y x : ℤ) → unsigned_abs d ≤ 2 ^ 31 → unsigned_abs y ≤ 65536 * 131073 → unsigned_abs x ≤ 65536
    → unsigned_abs (d +ℤ (y -ℤ x *ℤ pos 65536)) ≤ 2 ^ 34
within_sum d y x one two three = omega (arith, ints)

proportion_within : (p lo hi : AxisPoint) → IsGiven p → IsGiven lo → IsGiven hi → lo.at <ℤ p.at → p.at <ℤ hi.at
    → unsigned_abs (in_proportion p lo hi) ≤ 2 ^ 34
proportion_within p lo hi given low high more less =
    let r = unsigned_abs (hi.at -ℤ lo.at) in
    let w = moved hi -ℤ moved lo in
    let x = p.at -ℤ lo.at in
    let k = rate lo hi in
    let order : lo.at <ℤ hi.at = omega (arith, ints) in
    let is : hi.at -ℤ lo.at ≡ pos r = omega (arith, ints) in
    let is_rate : k ≡ away_quotient w (pos r) = rw (rate_is lo hi order, is) refl in
    let size : unsigned_abs k ≡ (2 * unsigned_abs w + r) / (2 * r) = rw is_rate (magnitude w r) in
    let part : unsigned_abs x ≤ r = omega (arith, ints) in
    let share : unsigned_abs x * unsigned_abs k ≤ unsigned_abs w + r =
    rw size (share_within (unsigned_abs w) r (unsigned_abs x) part) in
    let product : unsigned_abs (x *ℤ k) ≤ unsigned_abs w + r = rw (unsigned_abs-mul x k) share in
    let low_at = low.at in
    let high_at = high.at in
    let low_delta = low.delta in
    let high_delta = high.delta in
    let range : r ≤ 65536 = omega (arith, ints) in
    let way : unsigned_abs w ≤ 65536 * 131072 = omega (arith, ints, way_is lo hi) in
    let spread = mul_diff x k (pos 65536) in
    rw (proportion_is p lo hi, spread) (within_sum lo.delta (x *ℤ k) x low_delta (omega arith) (omega arith))

delta_by : (p lo hi : AxisPoint) (e d l h : Bool) → IsGiven p → IsGiven lo → IsGiven hi → int_le p.at lo.at ≡ l
    → int_le hi.at p.at ≡ h
    → unsigned_abs (if e then (if d then lo.delta else pos 0)
    else (if l then lo.delta else (if h then hi.delta else in_proportion p lo hi))) ≤ 2 ^ 34
delta_by p lo hi true true l h given low high is_l is_h = let few = low.delta in omega arith
delta_by p lo hi true false l h given low high is_l is_h = omega arith
delta_by p lo hi false d true h given low high is_l is_h = let few = low.delta in omega arith
delta_by p lo hi false d false true given low high is_l is_h = let few = high.delta in omega arith
delta_by p lo hi false d false false given low high is_l is_h =
    let more : lo.at <ℤ p.at = grind (arith, ints) in
    let less : p.at <ℤ hi.at = grind (arith, ints) in
    proportion_within p lo hi given low high more less

placed_within : (p lo hi : AxisPoint) → IsGiven p → IsGiven lo → IsGiven hi → IsInferred (placed lo hi p)
placed_within p lo hi given low high =
    delta_by p lo hi (int_eq lo.at hi.at) (int_eq lo.delta hi.delta) (int_le p.at lo.at) (int_le hi.at p.at) given low
    high refl refl

inferred_within : (a b p : AxisPoint) → IsGiven a → IsGiven b → IsGiven p → IsInferred (inferred a b p)
unfolding inferred
inferred_within a b p before after given =
    elim (int_lt b.at a.at) as (λ (t : Bool). IsInferred (if t then placed b a p else placed a b p)) [
      | true ↦ placed_within p b a given after before
      | false ↦ placed_within p a b given before after
    ]

still_within : (p : AxisPoint) → IsGiven p → IsInferred p
still_within p given = let few = given.delta in omega arith

-- the neighbours of a contour's points are points of the contour
found_given : (b : Bool) (x : AxisPoint) (found : Option AxisPoint) → IsGiven x → IfSome found IsGiven
    → IfSome (if b then Some x else found) IsGiven
found_given true x found given before = given
found_given false x found given before = before

first_given : (ps : List AxisPoint) → All IsGiven ps → IfSome (first_named ps) IsGiven
first_given [] all = tt
first_given (p ∷ ps) all =
    found_given p.named p (first_named ps) (All-head IsGiven p ps all) (first_given ps (All-tail IsGiven p ps all))

last_given : (found : Option AxisPoint) (ps : List AxisPoint) → IfSome found IsGiven → All IsGiven ps
    → IfSome (last_named found ps) IsGiven
last_given found [] before all = before
last_given found (p ∷ ps) before all =
    last_given (if p.named then Some p else found) ps
    (found_given p.named p found (All-head IsGiven p ps all) before) (All-tail IsGiven p ps all)

by_within : (x y : Option AxisPoint) (p : AxisPoint) → IfSome x IsGiven → IfSome y IsGiven → IsGiven p
    → IsInferred (inferred_by x y p)
by_within (Some a) (Some b) p before after given = inferred_within a b p before after given
by_within (Some a) None p before after given = still_within p given
by_within None y p before after given = still_within p given

among_by : (t : Bool) (p q : AxisPoint) → IsInferred p → IsInferred q → IsInferred (if t then p else q)
among_by true p q one other = one
among_by false p q one other = other

among_within : (others : List AxisPoint) (p : AxisPoint) → All IsGiven others → IsGiven p
    → IsInferred (inferred_among others p)
among_within others p all given =
    among_by p.named p (inferred_by (last_named None others) (first_named others) p) (still_within p given)
    (by_within (last_named None others) (first_named others) p (last_given None others tt all) (first_given others all)
    given)

from_within : (front back : List AxisPoint) → All IsGiven front → All IsGiven back
    → All IsInferred (contour_from front back)
from_within front [] before after = All-nil IsInferred
from_within front (p ∷ ps) before after =
    let head = All-head IsGiven p ps after in
    let tail = All-tail IsGiven p ps after in
    All-cons IsInferred (inferred_among (ps ++ front) p) (contour_from (front ++ p ∷ []) ps)
    (among_within (ps ++ front) p (All-append IsGiven ps front tail before) head)
    (from_within (front ++ p ∷ []) ps
    (All-append IsGiven front (p ∷ []) before (All-cons IsGiven p [] head (All-nil IsGiven))) tail)

contour_within : (ps : List AxisPoint) → All IsGiven ps → All IsInferred (contour ps)
unfolding contour
contour_within ps all = from_within [] ps (All-nil IsGiven) all

pub contours_within : (at : ℕ) (ends : List ℕ) (ps : List AxisPoint) → All IsGiven ps
    → All IsInferred (contours at ends ps)
contours_within at [] ps all =
    All-weaker IsGiven IsInferred (λ p. still_within p) (drop at ps) (All-drop IsGiven at ps all)
contours_within at (end ∷ ends) ps all =
    let part = take ((end + 1) - at) (drop at ps) in
    All-append IsInferred (contour part) (contours (end + 1) ends ps)
    (contour_within part (All-take IsGiven ((end + 1) - at) (drop at ps) (All-drop IsGiven at ps all)))
    (contours_within (end + 1) ends ps all)
