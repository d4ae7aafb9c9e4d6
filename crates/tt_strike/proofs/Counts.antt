-- What points and deltas leave of their limits.
use Rattle.std.proofs.Common.{◌≡◌, ℕ, ◌+◌, ◌-◌, ◌<◌, ◌≤◌, nat_le, Bool, true, false, ◌&&◌, if◌then◌else◌, Option, Some, None, Result, Ok, Err, refl, sym, arith}
use Rattle.std.proofs.lemmas.Bool.Decides.{nat_tests}
use Rattle.tt_core.specs.Limits.{point_work_limit}
use Rattle.tt_core.specs.declared.fault.JobFault.TheVariants as fault
use Rattle.tt_fit.specs.DeltaCounting.{delta_limit}
use Rattle.tt_fit.specs.declared.programs.Fit.{Fit}
use Rattle.tt_strike.specs.Work.{all_counts, counts_left, counts_tested, is_bounded}
use Rattle.tt_strike.specs.declared.work.CountsLeft.{CountsLeft}
use Rattle.tt_strike.proofs.Limited.{in_limit, past_limit}

-- two amounts, one after the other

after_test : (most n k : ℕ) (few : Bool) → nat_le k (most - n) ≡ few → n ≤ most → few ≡ nat_le (n + k) most
after_test most n k true test small =
    let both : nat_le (n + k) most ≡ true = grind (arith, nat_tests, test, small) in sym both
after_test most n k false test small =
    let both : nat_le (n + k) most ≡ false = grind (arith, nat_tests, test, small) in sym both

rest_test : (most n k : ℕ) → n ≤ most → nat_le k (most - n) ≡ nat_le (n + k) most
rest_test most n k small = after_test most n k (nat_le k (most - n)) refl small

and_false : (b : Bool) → (b && false) ≡ false
and_false true = refl
and_false false = refl

-- both are within their limits
pub record IsRest (most left : CountsLeft) (points deltas : ℕ) : Type 0 where
  pub few_points : points ≤ most.points
  pub few_deltas : deltas ≤ most.deltas
  pub rest : left ≡ record { points = most.points - points; deltas = most.deltas - deltas }

rest_by : (most left : CountsLeft) (points deltas : ℕ) (a b : Bool) → nat_le points most.points ≡ a
    → nat_le deltas most.deltas ≡ b
    → Some left ≡ (if a && b then Some (record { points = most.points - points; deltas = most.deltas - deltas }) else None)
    → IsRest most left points deltas
rest_by most left points deltas true true few less is = record {
  few_points = grind (arith, nat_tests, few);
  few_deltas = grind (arith, nat_tests, less);
  rest = cc;
}
rest_by most left points deltas true false few less is = absurd cc
rest_by most left points deltas false b few less is = absurd cc

pub rest_of : (most left : CountsLeft) (points deltas : ℕ) → Some left ≡ counts_left most points deltas
    → IsRest most left points deltas
rest_of most left points deltas is =
    rest_by most left points deltas (nat_le points most.points) (nat_le deltas most.deltas) refl refl is

-- the rest after a glyph, and then after others
pub left_after : (most left : CountsLeft) (p d points deltas : ℕ) → Some left ≡ counts_left most p d
    → counts_left left points deltas ≡ counts_left most (p + points) (d + deltas)
left_after most left p d points deltas is =
    let first = rest_of most left p d is in
    let few : nat_le points (most.points - p) ≡ nat_le (p + points) most.points =
    rest_test most.points p points first.few_points in
    let less : nat_le deltas (most.deltas - d) ≡ nat_le (d + deltas) most.deltas =
    rest_test most.deltas d deltas first.few_deltas in
    let one : most.points - p - points ≡ most.points - (p + points) = omega arith in
    let other : most.deltas - d - deltas ≡ most.deltas - (d + deltas) = omega arith in
    rw (first.rest, few, less, one, other) refl

-- nothing is left after a glyph that has too many, whatever others have

no_more_points : (most : CountsLeft) (points deltas : ℕ) → most.points < points
    → ◌≡◌ {A = Option CountsLeft} None (counts_left most points deltas)
no_more_points most points deltas past =
    let over : nat_le points most.points ≡ false = grind (arith, nat_tests, past) in rw over refl

pub no_more_deltas : (most : CountsLeft) (points deltas : ℕ) → most.deltas < deltas
    → ◌≡◌ {A = Option CountsLeft} None (counts_left most points deltas)
no_more_deltas most points deltas past =
    let over : nat_le deltas most.deltas ≡ false = grind (arith, nat_tests, past) in
    rw (over, and_false (nat_le points most.points)) refl

none_by : (most : CountsLeft) (p d points deltas : ℕ) (a b : Bool) → nat_le p most.points ≡ a
    → nat_le d most.deltas ≡ b
    → ◌≡◌ {A = Option CountsLeft} None (if a && b then Some (record { points = most.points - p; deltas = most.deltas - d }) else None)
    → ◌≡◌ {A = Option CountsLeft} None (counts_left most (p + points) (d + deltas))
none_by most p d points deltas true true few less is = absurd cc
none_by most p d points deltas true false few less is =
    no_more_deltas most (p + points) (d + deltas) (grind (arith, nat_tests, less))
none_by most p d points deltas false b few less is =
    no_more_points most (p + points) (d + deltas) (grind (arith, nat_tests, few))

pub none_after : (most : CountsLeft) (p d points deltas : ℕ) → None ≡ counts_left most p d
    → ◌≡◌ {A = Option CountsLeft} None (counts_left most (p + points) (d + deltas))
none_after most p d points deltas is =
    none_by most p d points deltas (nat_le p most.points) (nat_le d most.deltas) refl refl is

-- the deltas of control values before those of the glyphs
pub after_control : (most control points deltas : ℕ) (left : CountsLeft) → control ≤ most → left.deltas ≡ most - control
    → counts_left left points deltas ≡ counts_left (record { points = left.points; deltas = most }) points (control + deltas)
after_control most control points deltas left small is =
    let less : nat_le deltas (most - control) ≡ nat_le (control + deltas) most = rest_test most control deltas small in
    let other : most - control - deltas ≡ most - (control + deltas) = omega arith in
    rw (is, less, other) refl

-- the tests of a job's counts are passed where something is left, and only there

pub counts_pass : (how : Fit) (points deltas : ℕ) (left : CountsLeft) → is_bounded how ≡ true
    → Some left ≡ counts_left all_counts points deltas → counts_tested how points deltas ≡ Ok tt
unfolding counts_tested
counts_pass how points deltas left bounded is =
    let rest = rest_of all_counts left points deltas is in
    rw (
      in_limit how point_work_limit points bounded rest.few_points,
      in_limit how delta_limit deltas bounded rest.few_deltas,
    ) refl

stopped_by : (how : Fit) (points deltas : ℕ) (a b : Bool) → is_bounded how ≡ true → nat_le points point_work_limit ≡ a
    → nat_le deltas delta_limit ≡ b
    → ◌≡◌ {A = Option CountsLeft} None (if a && b then Some (record { points = point_work_limit - points; deltas = delta_limit - deltas }) else None)
    → counts_tested how points deltas ≡ Err fault.WorkLarge
unfolding counts_tested
stopped_by how points deltas true true bounded few less is = absurd cc
stopped_by how points deltas true false bounded few less is =
    let within : points ≤ point_work_limit = grind (arith, nat_tests, few) in
    let past : delta_limit < deltas = grind (arith, nat_tests, less) in
    rw (in_limit how point_work_limit points bounded within, past_limit how delta_limit deltas bounded past) refl
stopped_by how points deltas false b bounded few less is =
    let past : point_work_limit < points = grind (arith, nat_tests, few) in
    rw (past_limit how point_work_limit points bounded past) refl

pub counts_stop : (how : Fit) (points deltas : ℕ) → is_bounded how ≡ true → None ≡ counts_left all_counts points deltas
    → counts_tested how points deltas ≡ Err fault.WorkLarge
counts_stop how points deltas bounded is =
    stopped_by how points deltas (nat_le points point_work_limit) (nat_le deltas delta_limit) bounded refl refl is
