-- Joined edges blacken what the edges blacken, and meet the rows that the edges meet. There are no more of them.
use Rattle.std.proofs.Common.{◌≡◌, ◌∙◌, sym, refl, ap, ap₂, ℕ, suc, ◌+◌, ◌≤◌, Bool, true, false, ◌||◌, not, if◌then◌else◌, List, [], ◌∷◌, length, inl, inr, sum_by, arith}
use Rattle.std.specs.Prelude.{ℤ, pos, ◌+ℤ◌, ◌-ℤ◌}
use Rattle.std.specs.List.{range_with_len}
use Rattle.std.proofs.lemmas.Bool.{cases_Bool}
use Rattle.std.proofs.lemmas.Int.{ints}
use Rattle.std.proofs.lemmas.List.Sums.{sum_by-cons}
use Rattle.tt_scan_edges.specs.declared.edge.Edge.{Edge}
use Rattle.tt_scan_edges.specs.declared.edge.Frame.{Frame}
use Rattle.tt_scan_edges.specs.Joined.{join, joined, joined_from, joins, line_at}
use Rattle.tt_scan_edges.specs.Winding.{is_between, is_zero, lies_on, lies_on_one, row_y, rows_met, turned, winding}
use Rattle.tt_scan_edges.specs.Laws.{JoinedBlackenAlike, JoinedMeetAlike, JoinedCrossAlike}
use Rattle.tt_scan_edges.proofs.Joins.{folded, folded_joined, not_on, not_turned, off_rows}

-- a place on an edge
either_on : ℤ → ℤ → Edge → Bool → Bool
either_on x y e rest = lies_on e x y || rest

on_folded : (es : List Edge) (x y : ℤ) → lies_on_one es x y ≡ folded (either_on x y) false es
unfolding either_on
on_folded [] x y = refl
on_folded (e ∷ es) x y = ap (λ b. lies_on e x y || b) (on_folded es x y)

on_joint : (x k : ℤ) (e f : Edge) (a : Bool) → joins e f ≡ true
    → either_on x (line_at k) e (either_on x (line_at k) f a) ≡ either_on x (line_at k) (join e f) a
unfolding either_on
on_joint x k e f a is =
    let out = off_rows e f k is in
    rw (not_on e x (line_at k) out.first, not_on f x (line_at k) out.second, not_on (join e f) x (line_at k) out.whole) refl

pub on_alike : (es : List Edge) (x k : ℤ) → lies_on_one (joined es) x (line_at k) ≡ lies_on_one es x (line_at k)
on_alike es x k = on_folded (joined es) x (line_at k)
    ∙ folded_joined (either_on x (line_at k)) (on_joint x k) false es ∙ sym (on_folded es x (line_at k))

-- the winding
more_turned : ℤ → ℤ → Edge → ℤ → ℤ
more_turned x y e rest = turned e x y +ℤ rest

turns_folded : (es : List Edge) (x y : ℤ) → winding es x y ≡ folded (more_turned x y) (pos 0) es
unfolding more_turned
turns_folded [] x y = refl
turns_folded (e ∷ es) x y = ap (λ z. turned e x y +ℤ z) (turns_folded es x y)

turns_joint : (x k : ℤ) (e f : Edge) (a : ℤ) → joins e f ≡ true
    → more_turned x (line_at k) e (more_turned x (line_at k) f a) ≡ more_turned x (line_at k) (join e f) a
unfolding more_turned
turns_joint x k e f a is =
    let out = off_rows e f k is in
    rw (not_turned e x (line_at k) out.first, not_turned f x (line_at k) out.second, not_turned (join e f) x (line_at k) out.whole)
    (omega (arith, ints))

pub winding_alike : (es : List Edge) (x k : ℤ) → winding (joined es) x (line_at k) ≡ winding es x (line_at k)
winding_alike es x k = turns_folded (joined es) x (line_at k)
    ∙ folded_joined (more_turned x (line_at k)) (turns_joint x k) (pos 0) es ∙ sym (turns_folded es x (line_at k))

pub blacken_alike : JoinedBlackenAlike
blacken_alike es x k = ap₂ (λ a w. a || not (is_zero w)) (on_alike es x k) (winding_alike es x k)

-- rows met
more_met : ℤ → Edge → ℕ → ℕ
more_met y e rest = (if is_between e.ay e.by y then 1 else 0) + rest

met_folded : (es : List Edge) (y : ℤ) → rows_met es y ≡ folded (more_met y) 0 es
unfolding more_met
met_folded [] y = refl
met_folded (e ∷ es) y = ap (λ n. (if is_between e.ay e.by y then 1 else 0) + n) (met_folded es y)

met_joint : (k : ℤ) (e f : Edge) (a : ℕ) → joins e f ≡ true
    → more_met (line_at k) e (more_met (line_at k) f a) ≡ more_met (line_at k) (join e f) a
unfolding more_met
met_joint k e f a is = let out = off_rows e f k is in rw (out.first, out.second, out.whole) (omega arith)

pub meet_alike : JoinedMeetAlike
meet_alike es k = met_folded (joined es) (line_at k)
    ∙ folded_joined (more_met (line_at k)) (met_joint k) 0 es ∙ sym (met_folded es (line_at k))

same_sums : (g h : ℕ → ℕ) → ((n : ℕ) → g n ≡ h n) → (ns : List ℕ) → sum_by g ns ≡ sum_by h ns
same_sums g h same [] = refl
same_sums g h same (n ∷ ns) =
    sum_by-cons g n ns ∙ ap₂ (λ a b. a + b) (same n) (same_sums g h same ns) ∙ sym (sum_by-cons h n ns)

row_is_line : (f : Frame) (row : ℤ) → row_y f row ≡ line_at (((f.rise +ℤ pos f.margin) -ℤ row) -ℤ pos 1)
row_is_line f row = omega (arith, ints)

pub cross_alike : JoinedCrossAlike
cross_alike f es = same_sums (λ row. rows_met (joined es) (row_y f (pos row))) (λ row. rows_met es (row_y f (pos row)))
    (λ row. let is = row_is_line f (pos row) in rw is (meet_alike es (((f.rise +ℤ pos f.margin) -ℤ pos row) -ℤ pos 1)))
    (range_with_len 0 f.height)

-- there are no more of them
fewer_from : (e : Edge) (fs : List Edge) → length (joined_from e fs) ≤ suc (length fs)
fewer_from e [] = omega arith
fewer_from e (f ∷ fs) = elim (cases_Bool (joins e f)) [
  | inl is ↦ rw is (let rest = fewer_from (join e f) fs in omega (arith, rest))
  | inr other ↦ rw other (let rest = fewer_from f fs in omega (arith, rest))
]

pub joined_fewer : (es : List Edge) → length (joined es) ≤ length es
joined_fewer [] = omega arith
joined_fewer (e ∷ es) = fewer_from e es
