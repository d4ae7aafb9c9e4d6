-- OpenType, "gvar", "Inferred deltas for un-referenced point numbers": a point without a delta of its own moves with the
-- nearest named points of its contour, along each axis by itself. A share is taken with a rate in 16.16, and halves are
-- rounded away from zero (profile).
use Rattle.std.specs.Prelude.{◌≡◌, ℕ, ℤ, pos, negsuc, ◌+◌, ◌+ℤ◌, ◌-ℤ◌, ◌*ℤ◌, int_le, int_lt, true, false, if◌then◌else◌, List, [], ◌∷◌, ◌++◌, drop, slice_range, Option, Some, None, refl, map}
use Rattle.std.specs.Ordering.{int_eq}
use Rattle.tt_core.specs.Scales.{away_quotient}
use Rattle.tt_deltas_inference.specs.declared.point.AxisPoint.{AxisPoint}

-- a point's coordinate, and the same with its delta, in 1/65536 of a font unit
abbrev pub original : AxisPoint → ℤ
original p = pos 65536 *ℤ p.at

abbrev pub moved : AxisPoint → ℤ
moved p = original p +ℤ p.delta

-- the way between two moved points for each unit of the way between their originals, in 1/65536
abbrev pub rate : AxisPoint → AxisPoint → ℤ
rate lo hi = away_quotient ((moved hi -ℤ moved lo) *ℤ pos 65536) (original hi -ℤ original lo)

-- the delta that moves a point in proportion
abbrev pub in_proportion : AxisPoint → AxisPoint → AxisPoint → ℤ
in_proportion p lo hi =
    (moved lo +ℤ away_quotient ((original p -ℤ original lo) *ℤ rate lo hi) (pos 65536)) -ℤ original p

-- The delta of a point with two named neighbours. If these have one coordinate, the delta is theirs, or 0 if they have
-- two deltas. Otherwise a point outside them moves as the nearer one, and a point between them in proportion.
abbrev pub delta_between : AxisPoint → AxisPoint → AxisPoint → ℤ
delta_between p lo hi =
    if int_eq lo.at hi.at then (if int_eq lo.delta hi.delta then lo.delta else pos 0)
    else (if int_le p.at lo.at then lo.delta
    else (if int_le hi.at p.at then hi.delta else in_proportion p lo hi))

abbrev pub placed : AxisPoint → AxisPoint → AxisPoint → AxisPoint
placed lo hi p = record p { delta = delta_between p lo hi }

-- the lower neighbour is the one with the lower coordinate
unfoldable pub inferred : AxisPoint → AxisPoint → AxisPoint → AxisPoint
inferred a b p = if int_lt b.at a.at then placed b a p else placed a b p

abbrev pub first_named : List AxisPoint → Option AxisPoint
first_named [] = None
first_named (p ∷ ps) = if p.named then Some p else first_named ps

-- the last named point, or the one found before
abbrev pub last_named : Option AxisPoint → List AxisPoint → Option AxisPoint
last_named found [] = found
last_named found (p ∷ ps) = last_named (if p.named then Some p else found) ps

-- without a named point in its contour a point is unchanged
abbrev pub inferred_by : Option AxisPoint → Option AxisPoint → AxisPoint → AxisPoint
inferred_by (Some a) (Some b) p = inferred a b p
inferred_by (Some a) None p = p
inferred_by None b p = p

-- a point, with the others of its contour from the next one round to the one before
abbrev pub inferred_among : List AxisPoint → AxisPoint → AxisPoint
inferred_among others p = if p.named then p else inferred_by (last_named None others) (first_named others) p

-- the points of a contour after its front
abbrev pub contour_from : List AxisPoint → List AxisPoint → List AxisPoint
contour_from front [] = []
contour_from front (p ∷ back) = inferred_among (back ++ front) p ∷ contour_from (front ++ p ∷ []) back

unfoldable pub contour : List AxisPoint → List AxisPoint
contour ps = contour_from [] ps

-- each contour by itself, from its first point to its last; the phantom points, after the last contour, are unchanged
abbrev pub contours : ℕ → List ℕ → List AxisPoint → List AxisPoint
contours at [] ps = drop at ps
contours at (end ∷ ends) ps = contour (slice_range ps at (end + 1)) ++ contours (end + 1) ends ps

-- worked values
abbrev at : ℤ → ℤ → AxisPoint
at coordinate delta = record { named = true; at = coordinate; delta = delta }

abbrev unnamed : ℤ → AxisPoint
unnamed coordinate = record { named = false; at = coordinate; delta = pos 0 }

abbrev with : ℤ → ℤ → AxisPoint
with coordinate delta = record { named = false; at = coordinate; delta = delta }

-- one named point: the contour moves with it
one_named : contour (unnamed (pos 0) ∷ at (pos 100) (pos 2621440) ∷ unnamed (pos 300) ∷ [])
    ≡ with (pos 0) (pos 2621440) ∷ at (pos 100) (pos 2621440) ∷ with (pos 300) (pos 2621440) ∷ []
unfolding contour inferred
one_named = refl

none_named : contour (unnamed (pos 0) ∷ unnamed (pos 100) ∷ []) ≡ unnamed (pos 0) ∷ unnamed (pos 100) ∷ []
unfolding contour
none_named = refl

-- between 0 and 256 with deltas of 0 and 64 units: 64 moves by 16; below and above move as the ends
between_and_outside : map (λ c. contour (at (pos 0) (pos 0) ∷ unnamed c ∷ at (pos 256) (pos 4194304) ∷ []))
    (pos 64 ∷ negsuc 49 ∷ pos 300 ∷ [])
    ≡ (at (pos 0) (pos 0) ∷ with (pos 64) (pos 1048576) ∷ at (pos 256) (pos 4194304) ∷ [])
    ∷ (at (pos 0) (pos 0) ∷ with (negsuc 49) (pos 0) ∷ at (pos 256) (pos 4194304) ∷ [])
    ∷ (at (pos 0) (pos 0) ∷ with (pos 300) (pos 4194304) ∷ at (pos 256) (pos 4194304) ∷ [])
    ∷ []
unfolding contour inferred
between_and_outside = refl

-- the lower neighbour may come after the point
higher_first : contour (at (pos 256) (pos 4194304) ∷ unnamed (pos 64) ∷ at (pos 0) (pos 0) ∷ [])
    ≡ at (pos 256) (pos 4194304) ∷ with (pos 64) (pos 1048576) ∷ at (pos 0) (pos 0) ∷ []
unfolding contour inferred
higher_first = refl

-- 50 of 200 units: the rate is 264 / 200 in 16.16, 86507.52, which is rounded to 86508
a_rounded_rate : contour (at (pos 0) (pos 0) ∷ unnamed (pos 50) ∷ at (pos 200) (pos 4194304) ∷ [])
    ≡ at (pos 0) (pos 0) ∷ with (pos 50) (pos 1048600) ∷ at (pos 200) (pos 4194304) ∷ []
unfolding contour inferred
a_rounded_rate = refl

-- equal coordinates: equal deltas hold for the points between, of two deltas neither does
equal_coordinates : map (λ d. contour (at (pos 40) (pos 65536) ∷ unnamed (pos 10) ∷ at (pos 40) d ∷ []))
    (pos 65536 ∷ negsuc 65535 ∷ [])
    ≡ (at (pos 40) (pos 65536) ∷ with (pos 10) (pos 65536) ∷ at (pos 40) (pos 65536) ∷ [])
    ∷ (at (pos 40) (pos 65536) ∷ with (pos 10) (pos 0) ∷ at (pos 40) (negsuc 65535) ∷ [])
    ∷ []
unfolding contour inferred
equal_coordinates = refl

-- a third of one unit on a way of 3 units: the rate is 65536 + 65536 / 3, rounded; two such shares differ from 2/3
thirds : contour (at (pos 0) (pos 0) ∷ unnamed (pos 1) ∷ unnamed (pos 2) ∷ at (pos 3) (pos 65536) ∷ [])
    ≡ at (pos 0) (pos 0) ∷ with (pos 1) (pos 21845) ∷ with (pos 2) (pos 43690) ∷ at (pos 3) (pos 65536) ∷ []
unfolding contour inferred
thirds = refl

thirds_below_zero :
    contour (at (pos 0) (pos 0) ∷ unnamed (pos 1) ∷ unnamed (pos 2) ∷ at (pos 3) (negsuc 65535) ∷ [])
    ≡ at (pos 0) (pos 0) ∷ with (pos 1) (negsuc 21844) ∷ with (pos 2) (negsuc 43689) ∷ at (pos 3) (negsuc 65535) ∷ []
unfolding contour inferred
thirds_below_zero = refl

-- A half is rounded away from zero in the rate of the moved ways, not of the deltas. Here the ways are 2 units and one
-- 65536th more or less: 65536.5 becomes 65537, and 65535.5 becomes 65536.
a_half : map (λ d. contour (at (pos 0) (pos 0) ∷ unnamed (pos 1) ∷ at (pos 2) d ∷ [])) (pos 1 ∷ negsuc 0 ∷ [])
    ≡ (at (pos 0) (pos 0) ∷ with (pos 1) (pos 1) ∷ at (pos 2) (pos 1) ∷ [])
    ∷ (at (pos 0) (pos 0) ∷ with (pos 1) (pos 0) ∷ at (pos 2) (negsuc 0) ∷ [])
    ∷ []
unfolding contour inferred
a_half = refl

-- the upper point passes the lower one: the moved way is -65537 65536ths for 2 units, and its half -32768.5 becomes
-- -32769
a_half_below_zero : contour (at (pos 0) (pos 0) ∷ unnamed (pos 1) ∷ at (pos 2) (negsuc 196608) ∷ [])
    ≡ at (pos 0) (pos 0) ∷ with (pos 1) (negsuc 98304) ∷ at (pos 2) (negsuc 196608) ∷ []
unfolding contour inferred
a_half_below_zero = refl

-- two contours and a phantom point: each by itself
by_itself : contours 0 (1 ∷ 3 ∷ []) (at (pos 0) (pos 5) ∷ unnamed (pos 9) ∷ unnamed (pos 9) ∷ unnamed (pos 4) ∷ unnamed (pos 7) ∷ [])
    ≡ at (pos 0) (pos 5) ∷ with (pos 9) (pos 5) ∷ unnamed (pos 9) ∷ unnamed (pos 4) ∷ unnamed (pos 7) ∷ []
unfolding contour inferred
by_itself = refl

-- a named phantom point keeps its delta, and no contour moves with it
a_phantom_point : contours 0 (1 ∷ []) (unnamed (pos 0) ∷ unnamed (pos 9) ∷ at (pos 0) (pos 3) ∷ [])
    ≡ unnamed (pos 0) ∷ unnamed (pos 9) ∷ at (pos 0) (pos 3) ∷ []
unfolding contour
a_phantom_point = refl

-- an empty contour, between two others
an_empty_contour : contours 0 (0 ∷ 0 ∷ 1 ∷ []) (at (pos 0) (pos 3) ∷ unnamed (pos 5) ∷ [])
    ≡ at (pos 0) (pos 3) ∷ unnamed (pos 5) ∷ []
unfolding contour
an_empty_contour = refl
