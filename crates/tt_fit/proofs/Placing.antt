-- A coordinate, a matched point or a number of points is refused exactly for its defects.
use Rattle.std.proofs.Common.{◌≡◌, ℕ, ◌+◌, nat_lt, Bool, true, false, if◌then◌else◌, List, ◌++◌, length, Option, Some, None, Result, Ok, Err, inl, inr, ℤ, pos, negsuc, refl, subst, sym, arith, length-append}
use Rattle.std.specs.Prelude.{◌&&◌, ◌⊎◌, IsOkAnd}
use Rattle.std.specs.List.{slice_get}
use Rattle.std.proofs.lemmas.Bool.Decides.{nat_tests}
use Rattle.std.proofs.lemmas.Int.{ints}
use Rattle.std.proofs.lemmas.Option.{slice_get_within, slice_get_cases}
use Rattle.tt_core.specs.Chains.{came-through, was-err, passed, passed-else, failed, failed-else, not-below}
use Rattle.tt_core.specs.Faults.{Fault}
use Rattle.tt_core.specs.declared.fault.Why.TheVariants as why
use Rattle.tt_core.specs.declared.halves.Halves.{Halves}
use Rattle.tt_core.specs.Limits.{point_limit}
use Rattle.tt_core.specs.Outcomes.{each}
use Rattle.tt_core.proofs.Each.{each-failed, each-made, length-each}
use Rattle.tt_glyf.specs.Format.{args_are_xy_values, has}
use Rattle.tt_glyf.specs.declared.raw.RawPoint.{RawPoint}
use Rattle.tt_glyf.specs.declared.raw.Record.{Record}
use Rattle.tt_fit_outline.specs.declared.grid.Grid.{Grid}
use Rattle.tt_fit_outline.specs.Component.{offset_of, point_of, matched_by, shift_of, landed, placed_point}
use Rattle.tt_fit_outline.specs.Joining.{within_point_limit, appended, placed}
use Rattle.tt_fit.specs.Defects.{PassesLimit, LeavesLimit, IsPhantomDefect, IsScaledDefect, LacksPoint, IsMatchDefect, IsLandingDefect, IsCountDefect, IsPlacingDefect}
use Rattle.tt_fit_outline.specs.Outline.{PhantomPoints, Outline}
use Rattle.tt_fit_outline.specs.Scaling.{is_coordinate, is_position, are_positions, glyf_fault, coordinate_fault, settled, scaled_position, scaled_point, blank, scaled_outline}
use Rattle.tt_fit_outline.specs.Size.{FontSize}

-- coordinates
pub passes : (v : ℤ) → is_coordinate v ≡ false → PassesLimit v
passes v is = grind (arith, nat_tests)

pub fits : (v : ℤ) → is_coordinate v ≡ true → PassesLimit v → ⊥
fits v is passes = grind (arith, nat_tests)

pub either-fails : (a b : Bool) → (a && b) ≡ false → (a ≡ false) ⊎ (b ≡ false)
either-fails true b is = inr is
either-fails false b is = inl refl

pub both-hold : (a b : Bool) → (a && b) ≡ true → (a ≡ true) × (b ≡ true)
both-hold true b is = (refl, is)
both-hold false b is = absurd cc

leaves : (x y : ℤ) → (is_coordinate x && is_coordinate y) ≡ false → LeavesLimit x y
leaves x y is = elim (either-fails (is_coordinate x) (is_coordinate y) is) [
  | inl of_x ↦ inl (passes x of_x)
  | inr of_y ↦ inr (passes y of_y)
]

stays : (x y : ℤ) → (is_coordinate x && is_coordinate y) ≡ true → LeavesLimit x y → ⊥
stays x y is past =
    let both = both-hold (is_coordinate x) (is_coordinate y) is in
    elim past [
      | inl of_x ↦ fits x both.0 of_x
      | inr of_y ↦ fits y both.1 of_y
    ]

settled-broke : (at : ℕ) (p : ℤ × ℤ × Bool) (f : Fault) → settled at p ≡ Err f
    → LeavesLimit p.0 p.1 × (f ≡ coordinate_fault at)
unfolding settled
settled-broke at p f was =
    let test = failed-else (is_coordinate p.0 && is_coordinate p.1) _ p f was in (leaves p.0 p.1 test.0, test.1)

settled-stays : (at : ℕ) (p q : ℤ × ℤ × Bool) → settled at p ≡ Ok q → LeavesLimit p.0 p.1 → ⊥
unfolding settled
settled-stays at p q was =
    let test = passed-else (is_coordinate p.0 && is_coordinate p.1) _ p q was in stays p.0 p.1 test.0

-- the phantom points
pub one-fails : (a b c d : Bool) → (a && b && c && d) ≡ false
    → (a ≡ false) ⊎ (b ≡ false) ⊎ (c ≡ false) ⊎ (d ≡ false)
one-fails false b c d is = inl refl
one-fails true false c d is = inr (inl refl)
one-fails true true false d is = inr (inr (inl refl))
one-fails true true true d is = inr (inr (inr is))

pub all-hold : (a b c d : Bool) → (a && b && c && d) ≡ true → (a ≡ true) × (b ≡ true) × (c ≡ true) × (d ≡ true)
all-hold false b c d is = absurd cc
all-hold true false c d is = absurd cc
all-hold true true false d is = absurd cc
all-hold true true true d is = (refl, refl, refl, is)

abbrev OneLeaves : PhantomPoints → Type 0
OneLeaves p = LeavesLimit p.left.0 p.left.1 ⊎ LeavesLimit p.right.0 p.right.1 ⊎ LeavesLimit p.ascent.0 p.ascent.1
    ⊎ LeavesLimit p.descent.0 p.descent.1

phantom-leaves : (p : PhantomPoints) → are_positions p ≡ false → OneLeaves p
phantom-leaves p is =
    let one = one-fails (is_position p.left) (is_position p.right) (is_position p.ascent) (is_position p.descent) is in
    elim one [
      | inl left ↦ inl (leaves p.left.0 p.left.1 left)
      | inr (inl right) ↦ inr (inl (leaves p.right.0 p.right.1 right))
      | inr (inr (inl ascent)) ↦ inr (inr (inl (leaves p.ascent.0 p.ascent.1 ascent)))
      | inr (inr (inr descent)) ↦ inr (inr (inr (leaves p.descent.0 p.descent.1 descent)))
    ]

phantom-stays : (p : PhantomPoints) → are_positions p ≡ true → OneLeaves p → ⊥
phantom-stays p is past =
    let hold = all-hold (is_position p.left) (is_position p.right) (is_position p.ascent) (is_position p.descent) is in
    elim past [
      | inl left ↦ stays p.left.0 p.left.1 hold.0 left
      | inr (inl right) ↦ stays p.right.0 p.right.1 hold.1 right
      | inr (inr (inl ascent)) ↦ stays p.ascent.0 p.ascent.1 hold.2 ascent
      | inr (inr (inr descent)) ↦ stays p.descent.0 p.descent.1 hold.3 descent
    ]

pub blank-broke : (at : ℕ) (p : PhantomPoints) (f : Fault) → blank at p ≡ Err f → IsPhantomDefect at p f
unfolding blank
blank-broke at p f was =
    let test = failed-else (are_positions p) _ _ f was in (phantom-leaves p test.0, test.1)

pub blank-whole : (at : ℕ) (p : PhantomPoints) (o : Outline) (f : Fault) → blank at p ≡ Ok o → IsPhantomDefect at p f → ⊥
unfolding blank
blank-whole at p o f was bad =
    let test = passed-else (are_positions p) _ _ o was in phantom-stays p test.0 bad.0

-- the points of a simple glyph
pub scaled-broke : (z : FontSize) (at : ℕ) (points : List RawPoint) (ends : List ℕ) (o : Outline) (f : Fault)
    → scaled_outline z at points ends o ≡ Err f → IsScaledDefect z at points f
unfolding scaled_outline
scaled-broke z at points ends o f was = elim (was-err (each (scaled_point z at) points) _ f was) [
  | inl here ↦
      let point = each-failed (scaled_point z at) points f here in
      let broke = settled-broke at (scaled_position z point.1) f point.3 in
      (point.0, point.1, point.2, broke.0, broke.1)
  | inr whole ↦ let done = whole.rest in absurd cc
]

pub scaled-whole : (z : FontSize) (at : ℕ) (points : List RawPoint) (ends : List ℕ) (o made : Outline) (f : Fault)
    → scaled_outline z at points ends o ≡ Ok made → IsScaledDefect z at points f → ⊥
unfolding scaled_outline
scaled-whole z at points ends o made f was bad =
    let by_points = came-through (each (scaled_point z at) points) _ made was in
    let one = each-made (scaled_point z at) points by_points.value bad.0 bad.1 by_points.first bad.2 in
    settled-stays at (scaled_position z bad.1) one.0 one.1 bad.3

-- matched points
lacks : (ps : List (ℤ × ℤ × Bool)) (n : ℤ) → point_of ps n ≡ None → LacksPoint ps n
lacks ps (pos n) is =
    let within = slice_get_cases ps n in
    elim (within.1) [
      | inl there ↦ let found = there.2 in absurd cc
      | inr past ↦ let far = past.0 in inr (omega (arith, ints))
    ]
lacks ps (negsuc n) is = inl (omega (arith, ints))

has-point : (ps : List (ℤ × ℤ × Bool)) (n : ℤ) (p : ℤ × ℤ × Bool) → point_of ps n ≡ Some p → LacksPoint ps n → ⊥
has-point ps (pos n) p is (inl below) = absurd (omega (arith, ints))
has-point ps (pos n) p is (inr past) = let within = slice_get_within ps n p is in absurd (omega (arith, ints))
has-point ps (negsuc n) p is lacking = absurd cc

matched-broke : (h : Halves) (r : Record) (p q : Option (ℤ × ℤ × Bool)) (f : Fault) → matched_by h r p q ≡ Err f
    → ((p ≡ None) ⊎ (q ≡ None)) × (f ≡ glyf_fault r.at why.MatchPoint)
matched-broke h r (Some p) (Some q) f was = absurd cc
matched-broke h r (Some p) None f was = (inr refl, cc)
matched-broke h r None q f was = (inl refl, cc)

shift-broke-by : (grid : Grid) (z : FontSize) (r : Record) (component points : List (ℤ × ℤ × Bool)) (f : Fault) (by_offset : Bool)
    → has r.flags args_are_xy_values ≡ by_offset
    → (if by_offset then Ok (offset_of grid z r) else matched_by z.scale.halves r (point_of component r.arg2) (point_of points r.arg1))
    ≡ Err f → IsMatchDefect r component points f
shift-broke-by grid z r component points f true is was = absurd cc
shift-broke-by grid z r component points f false is was =
    let broke = matched-broke z.scale.halves r (point_of component r.arg2) (point_of points r.arg1) f was in (
      is,
      elim (broke.0) [
        | inl none ↦ inl (lacks component r.arg2 none)
        | inr none ↦ inr (lacks points r.arg1 none)
      ],
      broke.1,
    )

shift-broke : (grid : Grid) (z : FontSize) (r : Record) (component points : List (ℤ × ℤ × Bool)) (f : Fault)
    → shift_of grid z r component points ≡ Err f → IsMatchDefect r component points f
unfolding shift_of
shift-broke grid z r component points f was =
    shift-broke-by grid z r component points f (has r.flags args_are_xy_values) refl was

matched-made : (h : Halves) (r : Record) (p q : Option (ℤ × ℤ × Bool)) (by : ℤ × ℤ) → matched_by h r p q ≡ Ok by
    → (a : ℤ × ℤ × Bool) × (b : ℤ × ℤ × Bool) × (p ≡ Some a) × (q ≡ Some b)
matched-made h r (Some p) (Some q) by was = (p, q, refl, refl)
matched-made h r (Some p) None by was = absurd cc
matched-made h r None q by was = absurd cc

shift-whole-by : (grid : Grid) (z : FontSize) (r : Record) (component points : List (ℤ × ℤ × Bool)) (by : ℤ × ℤ) (f : Fault)
    (by_offset : Bool) → has r.flags args_are_xy_values ≡ by_offset
    → (if by_offset then Ok (offset_of grid z r) else matched_by z.scale.halves r (point_of component r.arg2) (point_of points r.arg1))
    ≡ Ok by → IsMatchDefect r component points f → ⊥
shift-whole-by grid z r component points by f true is was bad = let other = bad.0 in absurd cc
shift-whole-by grid z r component points by f false is was bad =
    let found = matched-made z.scale.halves r (point_of component r.arg2) (point_of points r.arg1) by was in
    elim (bad.1) [
      | inl lacking ↦ has-point component r.arg2 found.0 found.2 lacking
      | inr lacking ↦ has-point points r.arg1 found.1 found.3 lacking
    ]

shift-whole : (grid : Grid) (z : FontSize) (r : Record) (component points : List (ℤ × ℤ × Bool)) (by : ℤ × ℤ) (f : Fault)
    → shift_of grid z r component points ≡ Ok by → IsMatchDefect r component points f → ⊥
unfolding shift_of
shift-whole grid z r component points by f was =
    shift-whole-by grid z r component points by f (has r.flags args_are_xy_values) refl was

-- the number of points
count-broke : (r : Record) (points landed component : List (ℤ × ℤ × Bool)) (f : Fault)
    → length landed ≡ length component → within_point_limit r.at (points ++ landed) ≡ Err f
    → IsCountDefect r component points f
unfolding within_point_limit
count-broke r points landed component f many was =
    let test = failed (nat_lt point_limit (length (points ++ landed))) _ (points ++ landed) f was in
    let past : nat_lt point_limit (length points + length landed) ≡ true = rw length-append at test.0 in
    (grind (arith, nat_tests), test.1)

count-whole : (r : Record) (points landed component all : List (ℤ × ℤ × Bool)) (f : Fault)
    → length landed ≡ length component → within_point_limit r.at (points ++ landed) ≡ Ok all
    → IsCountDefect r component points f → ⊥
unfolding within_point_limit
count-whole r points landed component all f many was bad =
    let test = passed (nat_lt point_limit (length (points ++ landed))) _ (points ++ landed) all was in
    let fit : nat_lt point_limit (length points + length landed) ≡ false = rw length-append at test.0 in
    let past = bad.0 in
    not-below point_limit (length points + length landed) fit (omega arith)

-- a component's points in their places
landing-broke : (grid : Grid) (z : FontSize) (r : Record) (component points : List (ℤ × ℤ × Bool)) (by : ℤ × ℤ) (f : Fault)
    → shift_of grid z r component points ≡ Ok by → each (placed_point z.scale.halves r by) component ≡ Err f
    → IsLandingDefect grid z r component points f
landing-broke grid z r component points by f shifted was =
    let point = each-failed (placed_point z.scale.halves r by) component f was in
    let broke = settled-broke r.at (landed z.scale.halves r by point.1) f point.3 in
    let P : Result (ℤ × ℤ) Fault → Type 0 = λ x. IsOkAnd x (λ by.
    (i : ℕ) × (p : ℤ × ℤ × Bool) × (slice_get component i ≡ Some p)
    × LeavesLimit (landed z.scale.halves r by p).0 (landed z.scale.halves r by p).1 × (f ≡ coordinate_fault r.at)) in
    subst P (sym shifted) (point.0, point.1, point.2, broke.0, broke.1)

landing-whole : (grid : Grid) (z : FontSize) (r : Record) (component points all : List (ℤ × ℤ × Bool)) (by : ℤ × ℤ) (f : Fault)
    → shift_of grid z r component points ≡ Ok by → each (placed_point z.scale.halves r by) component ≡ Ok all
    → IsLandingDefect grid z r component points f → ⊥
landing-whole grid z r component points all by f shifted was bad =
    let P : Result (ℤ × ℤ) Fault → Type 0 = λ x. IsOkAnd x (λ by.
    (i : ℕ) × (p : ℤ × ℤ × Bool) × (slice_get component i ≡ Some p)
    × LeavesLimit (landed z.scale.halves r by p).0 (landed z.scale.halves r by p).1 × (f ≡ coordinate_fault r.at)) in
    let there = subst P shifted bad in
    let one = each-made (placed_point z.scale.halves r by) component all there.0 there.1 was there.2 in
    settled-stays r.at (landed z.scale.halves r by there.1) one.0 one.1 there.3

pub placing-broke : (grid : Grid) (z : FontSize) (r : Record) (component o : Outline) (f : Fault) → placed grid z r component o ≡ Err f
    → IsPlacingDefect grid z r component o f
unfolding placed appended
placing-broke grid z r component o f was = elim (was-err (shift_of grid z r component.points o.points) _ f was) [
  | inl here ↦ inl (shift-broke grid z r component.points o.points f here)
  | inr moved ↦ elim (was-err (each (placed_point z.scale.halves r moved.value) component.points) _ f moved.rest) [
    | inl here ↦ inr (inl (landing-broke grid z r component.points o.points moved.value f moved.first here))
    | inr all ↦ elim (was-err (within_point_limit r.at (o.points ++ all.value)) _ f all.rest) [
      | inl here ↦
          let many = length-each (placed_point z.scale.halves r moved.value) component.points all.value all.first in
          inr (inr (count-broke r o.points all.value component.points f many here))
      | inr whole ↦ let done = whole.rest in absurd cc
    ]
  ]
]

pub placing-whole : (grid : Grid) (z : FontSize) (r : Record) (component o made : Outline) (f : Fault) → placed grid z r component o ≡ Ok made
    → IsPlacingDefect grid z r component o f → ⊥
unfolding placed appended
placing-whole grid z r component o made f was bad =
    let moved = came-through (shift_of grid z r component.points o.points) _ made was in
    let all = came-through (each (placed_point z.scale.halves r moved.value) component.points) _ made moved.rest in
    let few = came-through (within_point_limit r.at (o.points ++ all.value)) _ made all.rest in
    elim bad [
      | inl unmatched ↦ shift-whole grid z r component.points o.points moved.value f moved.first unmatched
      | inr (inl past) ↦ landing-whole grid z r component.points o.points all.value moved.value f moved.first all.first past
      | inr (inr count) ↦
          let many = length-each (placed_point z.scale.halves r moved.value) component.points all.value all.first in
          count-whole r o.points all.value component.points few.value f many few.first count
    ]
