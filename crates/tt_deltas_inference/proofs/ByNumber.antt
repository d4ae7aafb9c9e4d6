-- The points of a contour by their numbers.
use Rattle.std.proofs.Common.{◌≡◌, ◌∙◌, ℕ, zero, suc, ◌+◌, ◌-◌, ◌<◌, true, false, List, [], ◌∷◌, ◌++◌, length, take, drop, get_or, None, All, ap, sym, refl, arith, append_assoc}
use Rattle.std.proofs.lemmas.List.{append-nil, drop-drop, take-append-drop}
use Rattle.std.proofs.lemmas.List.Elements.{All-head, All-tail, All-take, All-drop}
use Rattle.tt_deltas_inference.specs.Bounds.{AreContourEnds}
use Rattle.tt_deltas_inference.specs.Inference.{contours, inferred_among, first_named, contour_from, contour}
use Rattle.tt_deltas_inference.specs.declared.point.AxisPoint.{AxisPoint}
use Rattle.tt_deltas_inference.proofs.Passes.{stays, unnamed_stays}

many_from : (front back : List AxisPoint) → length (contour_from front back) ≡ length back
many_from front [] = refl
many_from front (p ∷ ps) = ap suc (many_from (front ++ p ∷ []) ps)

pub many : (ps : List AxisPoint) → length (contour ps) ≡ length ps
unfolding contour
many ps = many_from [] ps

each_from : (front back : List AxisPoint) (i : ℕ) (d : AxisPoint) → i < length back
    → get_or (contour_from front back) i d ≡ inferred_among (drop (i + 1) back ++ (front ++ take i back)) (get_or back i d)
each_from front [] i d inside = absurd (omega arith)
each_from front (p ∷ ps) zero d inside = rw (append-nil front) refl
each_from front (p ∷ ps) (suc i) d inside =
    let next : suc i + 1 ≡ suc (i + 1) = omega arith in
    let rest = each_from (front ++ p ∷ []) ps i d (omega arith) in
    rw next (rw (append_assoc front (p ∷ []) (take i ps)) at rest)

pub named_point : (ps : List AxisPoint) (d : AxisPoint) (i : ℕ) → i < length ps → (get_or ps i d).named ≡ true
    → get_or (contour ps) i d ≡ get_or ps i d
unfolding contour
named_point ps d i inside here =
    each_from [] ps i d inside ∙ stays (drop (i + 1) ps ++ take i ps) (get_or ps i d) here

none_at : (qs : List AxisPoint) (d : AxisPoint) → ((j : ℕ) → j < length qs → (get_or qs j d).named ≡ false)
    → first_named qs ≡ None
none_at [] d none = refl
none_at (q ∷ qs) d none =
    let head : q.named ≡ false = none 0 (omega arith) in
    rw head (none_at qs d (λ j lt. none (suc j) (omega arith)))

pub none_named_at : (ps : List AxisPoint) (d : AxisPoint)
    → ((i : ℕ) → i < length ps → (get_or ps i d).named ≡ false) → contour ps ≡ ps
none_named_at ps d none = unnamed_stays ps (none_at ps d none)

all_from : (front back : List AxisPoint) → All (λ p. p.named ≡ true) back → contour_from front back ≡ back
all_from front [] all = refl
all_from front (p ∷ ps) all =
    let here = stays (ps ++ front) p (All-head (λ q. q.named ≡ true) p ps all) in
    let rest = all_from (front ++ p ∷ []) ps (All-tail (λ q. q.named ≡ true) p ps all) in
    cc

pub all_named : (ps : List AxisPoint) → All (λ p. p.named ≡ true) ps → contour ps ≡ ps
unfolding contour
all_named ps all = all_from [] ps all

-- the contours of points that are all named
pub contours_named : (from : ℕ) (ends : List ℕ) (ps : List AxisPoint) → AreContourEnds from ends (length ps)
    → All (λ p. p.named ≡ true) ps → contours from ends ps ≡ drop from ps
contours_named from [] ps are all = refl
contours_named from (end ∷ ends) ps are all =
    let k = (end + 1) - from in
    let part = take k (drop from ps) in
    let this = all_named part (All-take (λ q. q.named ≡ true) k (drop from ps) (All-drop (λ q. q.named ≡ true) from ps
    all)) in
    let rest = contours_named (end + 1) ends ps (are.1) all in
    let order = are.0 in
    let sum : from + k ≡ end + 1 = omega arith in
    let behind : drop (end + 1) ps ≡ drop k (drop from ps) = rw sum at (sym (drop-drop k from ps)) in
    rw (this, rest, behind) (take-append-drop k (drop from ps))

pub all_contours_named : (ends : List ℕ) (ps : List AxisPoint) → AreContourEnds 0 ends (length ps)
    → All (λ p. p.named ≡ true) ps → contours 0 ends ps ≡ ps
all_contours_named ends ps are all = contours_named 0 ends ps are all
