-- If a point of a contour is touched, an untouched one has touched neighbours on both sides.
use Rattle.std.proofs.Common.{◌≡◌, ◌∙◌, ℕ, zero, suc, ◌+◌, ◌-◌, ◌<◌, ◌≤◌, nat_lt, Bool, true, false, if◌then◌else◌, List, length, get_or, ap, sym, refl, arith}
use Rattle.std.proofs.lemmas.Bool.Decides.{nat_tests}
use Rattle.tt_state.specs.declared.graphics_state.Axis.{Axis}
use Rattle.tt_state.specs.declared.point.Point.{Point}
use Rattle.tt_points_zones.specs.Points.{is_touched}
use Rattle.tt_points_iup.specs.Neighbours.{round_from, HasNeighbours}

-- the least number from 1 that passes a test, and the greatest one below n
record Least (t : ℕ → Bool) (k : ℕ) : Type 0 where
  at : ℕ
  low : 0 < at
  high : at ≤ k
  is : t at ≡ true
  none : (j : ℕ) → 0 < j → j < at → t j ≡ false

record Greatest (t : ℕ → Bool) (n : ℕ) : Type 0 where
  at : ℕ
  low : 0 < at
  high : at < n
  is : t at ≡ true
  none : (j : ℕ) → at < j → j < n → t j ≡ false

-- none below a number, and not that number
one_more : (t : ℕ → Bool) (lo j : ℕ) (b : Bool) → nat_lt j lo ≡ b → ((i : ℕ) → 0 < i → i < lo → t i ≡ false)
    → t lo ≡ false → 0 < j → j < lo + 1 → t j ≡ false
one_more t lo j true is none here low high = none j low (grind (arith, nat_tests))
one_more t lo j false is none here low high =
    let same : j ≡ lo = grind (arith, nat_tests) in
    ap t same ∙ here

least_by : (t : ℕ → Bool) (lo left : ℕ) (b : Bool) → t lo ≡ b → 0 < lo → t (lo + left) ≡ true
    → ((j : ℕ) → 0 < j → j < lo → t j ≡ false) → Least t (lo + left)
least_by t lo left true is low found none =
    record { at = lo; low = low; high = omega arith; is = is; none = none }
least_by t lo zero false is low found none =
    let same : lo + 0 ≡ lo = omega arith in
    let both : t lo ≡ true = rw same at found in
    absurd cc
least_by t lo (suc left) false is low found none =
    let same : lo + suc left ≡ lo + 1 + left = omega arith in
    let further : t (lo + 1 + left) ≡ true = rw same at found in
    let rest = least_by t (lo + 1) left (t (lo + 1)) refl (omega arith) further
    (λ j above below. one_more t lo j (nat_lt j lo) refl none is above below) in
    rw same rest

not_last : (t : ℕ → Bool) (hi k : ℕ) (b : Bool) → nat_lt k (suc hi) ≡ b → t (suc hi) ≡ false → t k ≡ true
    → k ≤ suc hi → k ≤ hi
not_last t hi k true is last found high = grind (arith, nat_tests)
not_last t hi k false is last found high =
    let same : k ≡ suc hi = grind (arith, nat_tests) in
    let both : t (suc hi) ≡ true = sym (ap t same) ∙ found in
    absurd cc

one_less : (t : ℕ → Bool) (hi n j : ℕ) (b : Bool) → nat_lt (suc hi) j ≡ b
    → ((i : ℕ) → suc hi < i → i < n → t i ≡ false) → t (suc hi) ≡ false → hi < j → j < n → t j ≡ false
one_less t hi n j true is none here above below = none j (grind (arith, nat_tests)) below
one_less t hi n j false is none here above below =
    let same : j ≡ suc hi = grind (arith, nat_tests) in
    ap t same ∙ here

greatest_by : (t : ℕ → Bool) (n hi k : ℕ) (b : Bool) → t hi ≡ b → 0 < k → k ≤ hi → hi < n → t k ≡ true
    → ((j : ℕ) → hi < j → j < n → t j ≡ false) → Greatest t n
greatest_by t n hi k true is low high inside found none =
    record { at = hi; low = omega arith; high = inside; is = is; none = none }
greatest_by t n zero k false is low high inside found none = absurd (omega arith)
greatest_by t n (suc hi) k false is low high inside found none =
    greatest_by t n hi k (t hi) refl low (not_last t hi k (nat_lt k (suc hi)) refl is found high) (omega arith) found
    (λ j above below. one_less t hi n j (nat_lt (suc hi) j) refl none is above below)

-- the number of places round the contour from one point to another
abbrev distance : ℕ → ℕ → ℕ → Bool → ℕ
distance n i j b = if b then j - i else (n + j) - i

round_to : (n i j : ℕ) (b : Bool) → nat_lt i j ≡ b → i < n → j < n → (i ≡ j → ⊥) → round_from n i (distance n i j b) ≡ j
round_to n i j true is inside there other =
    let less : i < j = grind (arith, nat_tests) in
    let sum : i + (j - i) ≡ j = omega arith in
    let below : nat_lt j n ≡ true = grind (arith, nat_tests) in
    rw (sum, below) refl
round_to n i j false is inside there other =
    let least : j ≤ i = grind (arith, nat_tests) in
    let sum : i + ((n + j) - i) ≡ n + j = omega arith in
    let past : nat_lt (n + j) n ≡ false = grind (arith, nat_tests) in
    let left : (n + j) - n ≡ j = omega arith in
    let at : round_from n i ((n + j) - i) ≡ (if nat_lt (n + j) n then n + j else (n + j) - n) =
    ap (λ (m : ℕ). if nat_lt m n then m else m - n) sum in
    at ∙ ap (λ (b : Bool). if b then n + j else (n + j) - n) past ∙ left

differ : (axis : Axis) (ps : List Point) (d : Point) (i j : ℕ) → is_touched axis (get_or ps i d) ≡ false
    → is_touched axis (get_or ps j d) ≡ true → i ≡ j → ⊥
differ axis ps d i j here there same =
    let moved : is_touched axis (get_or ps i d) ≡ is_touched axis (get_or ps j d) =
    ap (λ (k : ℕ). is_touched axis (get_or ps k d)) same in
    absurd cc

below_by : (j i : ℕ) (b : Bool) → nat_lt j i ≡ b → j ≤ i → (j ≡ i → ⊥) → j < i
below_by j i true is least other = grind (arith, nat_tests)
below_by j i false is least other = let same : j ≡ i = grind (arith, nat_tests) in absurd (other same)

below_or_same : (j i : ℕ) → j ≤ i → (j ≡ i → ⊥) → j < i
below_or_same j i least other = below_by j i (nat_lt j i) refl least other

near : (n i j : ℕ) (b : Bool) → nat_lt i j ≡ b → i < n → j < n → (i ≡ j → ⊥)
    → (0 < distance n i j b) × (distance n i j b < n)
near n i j true is inside there other =
    let less : i < j = grind (arith, nat_tests) in (omega arith, omega arith)
near n i j false is inside there other =
    let least : j ≤ i = grind (arith, nat_tests) in
    let less : j < i = below_or_same j i least (λ same. other (sym same)) in
    (omega arith, omega arith)

pub has_neighbours : (axis : Axis) (ps : List Point) (d : Point) (i j : ℕ) → i < length ps → j < length ps
    → is_touched axis (get_or ps i d) ≡ false → is_touched axis (get_or ps j d) ≡ true → HasNeighbours axis ps d i
has_neighbours axis ps d i j inside there here touched =
    let n = length ps in
    let b = nat_lt i j in
    let k = distance n i j b in
    let t : ℕ → Bool = λ m. is_touched axis (get_or ps (round_from n i m) d) in
    let other = differ axis ps d i j here touched in
    let at = round_to n i j b refl inside there other in
    let range = near n i j b refl inside there other in
    let low = range.0 in
    let high = range.1 in
    let found : t k ≡ true = ap (λ (m : ℕ). is_touched axis (get_or ps m d)) at ∙ touched in
    let sum : 1 + (k - 1) ≡ k = omega arith in
    let first = least_by t 1 (k - 1) (t 1) refl (omega arith) (ap t sum ∙ found) (λ m above below. absurd (omega arith)) in
    let last = greatest_by t n (n - 1) k (t (n - 1)) refl low (omega arith) (omega arith) found
    (λ m above below. absurd (omega arith)) in
    record {
      before = last.at;
      last = record { there = record { other = last.low; once = last.high; touched = last.is }; nearest = last.none };
      after = first.at;
      next = record {
        there = record { other = first.low; once = omega (arith, first.high, high, sum); touched = first.is };
        nearest = first.none;
      };
    }
