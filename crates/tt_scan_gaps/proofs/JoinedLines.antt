-- Edges that are joined cross and touch no line, and reach no further.
use Rattle.std.proofs.Common.{◌≡◌, ◌∙◌, sym, refl, ap, ap₂, true, List, [], ◌∷◌, ◌++◌, map, inl, inr, arith}
use Rattle.std.specs.Prelude.{◌≢◌, ℤ, pos, negsuc, int_lt, ◌+ℤ◌, ◌-ℤ◌, ◌*ℤ◌, ◌≤ℤ◌, ◌<ℤ◌}
use Rattle.std.specs.List.{flat_map, range_with_len}
use Rattle.std.specs.Int.{int_div_euclid, int_max, int_min, int_rem_euclid}
use Rattle.std.proofs.lemmas.Bool.{cases_Bool}
use Rattle.std.proofs.lemmas.Int.{by_lt_z, clamps, ints}
use Rattle.tt_scan_edges.specs.declared.edge.Edge.{Edge}
use Rattle.tt_scan_edges.specs.Joined.{join, joined, joined_from, joins, line_below}
use Rattle.tt_scan_edges.specs.Winding.{is_between}
use Rattle.tt_scan_edges.proofs.Joins.{beside, folded, folded_joined, joint}
use Rattle.tt_scan_edges.proofs.JoinedMoved.{joined_exchanged}
use Rattle.tt_scan_gaps.specs.Boxes.{greatest_x, least_x}
use Rattle.tt_scan_gaps.specs.Crossings.{crossing, crossings, line_crossed, line_from, lines_crossed, touches}
use Rattle.tt_scan_gaps.specs.Laws.{JoinedCrossAlike, JoinedMarkAlike, JoinedReachAlike, JoinedTouchAlike, JoinedTurnAlike}
use Rattle.tt_scan_gaps.specs.declared.mark.Crossing.{Crossing}
use Rattle.tt_scan_gaps.specs.declared.mark.Mark.{Mark}
use Rattle.tt_scan_gaps.specs.Walk.{contour_marks, edge_marks, mark_of}
use Rattle.tt_scan_gaps.proofs.Lines.{floor_high, floor_low, off_touches_none}

-- a place between two is in their range
in_range : (a b z : ℤ) → is_between a b z ≡ true → (int_min a b ≤ℤ z) × (z ≤ℤ int_max a b)
in_range a b z is =
    by_lt_z a b
    (λ up.
    let from : a ≤ℤ z = grind (arith, ints, up) in
    let to : z ≤ℤ b = grind (arith, ints, up) in
    (omega (arith, ints, clamps, from, up), omega (arith, ints, clamps, to, up)))
    (λ down.
    let from : b ≤ℤ z = grind (arith, ints, down) in
    let to : z ≤ℤ a = grind (arith, ints, down) in
    (omega (arith, ints, clamps, from, down), omega (arith, ints, clamps, to, down)))

-- a place strictly between a line and the next
record IsBeside (v q : ℤ) : Type 0 where
  low : (pos 8192 *ℤ q +ℤ pos 4096) <ℤ v
  high : v <ℤ (pos 8192 *ℤ q +ℤ pos 12288)

lines_from : (v q : ℤ) → IsBeside v q → line_from v ≡ q +ℤ pos 1
lines_from v q is =
    let low = floor_low (v +ℤ pos 4095) in
    let high = floor_high (v +ℤ pos 4095) in
    omega (arith, ints, is.low, is.high, low, high)

whole : (n : ℤ) → int_rem_euclid n (pos 8192) ≡ pos 0 → pos 8192 *ℤ int_div_euclid n (pos 8192) ≡ n
whole (pos a) is = omega (arith, ints, is)
whole (negsuc a) is = omega (arith, ints, is)

off_line : (v q : ℤ) → IsBeside v q → int_rem_euclid (v -ℤ pos 4096) (pos 8192) ≢ pos 0
off_line v q is = λ zero. let all = whole (v -ℤ pos 4096) zero in absurd (omega (arith, ints, is.low, is.high, all))

-- an edge between a line and the next crosses and touches none
crosses_none : (e : Edge) (q : ℤ) → IsBeside e.ay q → IsBeside e.by q → crossings e ≡ []
crosses_none e q a b =
    let from = lines_from e.ay q a in
    let to = lines_from e.by q b in
    let none : lines_crossed e ≡ 0 = omega (arith, ints, from, to) in
    ap (λ n. map (λ k. crossing e (line_crossed e k)) (range_with_len 0 n)) none

touches_none : (e : Edge) (q : ℤ) → IsBeside e.ay q → IsBeside e.by q → touches e ≡ []
touches_none e q a b = elim (cases_Bool (int_lt e.by e.ay)) [
  | inl falls ↦ off_touches_none e (rw falls (off_line e.ay q a))
  | inr rises ↦ off_touches_none e (rw rises (off_line e.by q b))
]

-- the three edges of a joint lie so
record AreJoined (e f : Edge) (q : ℤ) : Type 0 where
  start : IsBeside e.ay q
  middle : IsBeside e.by q
  next : IsBeside f.ay q
  end : IsBeside f.by q

joint_beside : (e f : Edge) → joins e f ≡ true → AreJoined e f (line_below e.ay)
joint_beside e f is =
    let j = joint e f is in
    let ends = beside e.ay f.by j.up in
    let range = in_range e.ay f.by e.by j.between_y in
    let middle : IsBeside e.by (line_below e.ay) = record {
      low = omega (arith, ints, clamps, ends.a_low, ends.b_low, range.0);
      high = omega (arith, ints, clamps, ends.a_high, ends.b_high, range.1);
    } in record {
      start = record { low = ends.a_low; high = ends.a_high };
      middle = middle;
      next = rw (← j.same_y) middle;
      end = record { low = ends.b_low; high = ends.b_high };
    }

-- crossings, one edge after another
more_crossings : Edge → List Crossing → List Crossing
more_crossings e rest = crossings e ++ rest

crossings_folded : (es : List Edge) → flat_map crossings es ≡ folded more_crossings [] es
unfolding more_crossings
crossings_folded [] = refl
crossings_folded (e ∷ es) = ap (λ cs. crossings e ++ cs) (crossings_folded es)

crossings_joint : (e f : Edge) (cs : List Crossing) → joins e f ≡ true
    → more_crossings e (more_crossings f cs) ≡ more_crossings (join e f) cs
unfolding more_crossings
crossings_joint e f cs is =
    let at = joint_beside e f is in
    let q = line_below e.ay in
    rw (crosses_none e q at.start at.middle, crosses_none f q at.next at.end, crosses_none (join e f) q at.start at.end) refl

pub cross_alike : JoinedCrossAlike
cross_alike es = crossings_folded (joined es) ∙ folded_joined more_crossings crossings_joint [] es ∙ sym (crossings_folded es)

more_touches : Edge → List Crossing → List Crossing
more_touches e rest = touches e ++ rest

touches_folded : (es : List Edge) → flat_map touches es ≡ folded more_touches [] es
unfolding more_touches
touches_folded [] = refl
touches_folded (e ∷ es) = ap (λ cs. touches e ++ cs) (touches_folded es)

touches_joint : (e f : Edge) (cs : List Crossing) → joins e f ≡ true
    → more_touches e (more_touches f cs) ≡ more_touches (join e f) cs
unfolding more_touches
touches_joint e f cs is =
    let at = joint_beside e f is in
    let q = line_below e.ay in
    rw (touches_none e q at.start at.middle, touches_none f q at.next at.end, touches_none (join e f) q at.start at.end) refl

pub touch_alike : JoinedTouchAlike
touch_alike es = touches_folded (joined es) ∙ folded_joined more_touches touches_joint [] es ∙ sym (touches_folded es)

pub turn_alike : JoinedTurnAlike
turn_alike es = joined_exchanged es

-- marks where stubs are drawn
more_marks : Edge → List Mark → List Mark
more_marks e rest = edge_marks e ++ rest

marks_folded : (es : List Edge) → contour_marks true es ≡ folded more_marks [] es
unfolding more_marks
marks_folded [] = refl
marks_folded (e ∷ es) = ap (λ ms. edge_marks e ++ ms) (marks_folded es)

no_marks : (e : Edge) (q : ℤ) → IsBeside e.ay q → IsBeside e.by q → edge_marks e ≡ []
no_marks e q a b = ap₂ (λ cs ts. map (mark_of true) (cs ++ ts)) (crosses_none e q a b) (touches_none e q a b)

marks_joint : (e f : Edge) (ms : List Mark) → joins e f ≡ true → more_marks e (more_marks f ms) ≡ more_marks (join e f) ms
unfolding more_marks
marks_joint e f ms is =
    let at = joint_beside e f is in
    let q = line_below e.ay in
    rw (no_marks e q at.start at.middle, no_marks f q at.next at.end, no_marks (join e f) q at.start at.end) refl

pub mark_alike : JoinedMarkAlike
mark_alike es = marks_folded (joined es) ∙ folded_joined more_marks marks_joint [] es ∙ sym (marks_folded es)

-- the reach
least_by : (x a b c d : ℤ) → b ≡ c → int_min a d ≤ℤ b → int_min x (int_min a d) ≡ int_min (int_min x (int_min a b)) (int_min c d)
least_by x a b c d same low = omega (arith, ints, clamps, same, low)

greatest_by : (x a b c d : ℤ) → b ≡ c → b ≤ℤ int_max a d → int_max x (int_max a d) ≡ int_max (int_max x (int_max a b)) (int_max c d)
greatest_by x a b c d same high = omega (arith, ints, clamps, same, high)

least_from : (x : ℤ) (e : Edge) (fs : List Edge) → least_x x (joined_from e fs) ≡ least_x x (e ∷ fs)
least_from x e [] = refl
least_from x e (f ∷ fs) = elim (cases_Bool (joins e f)) [
  | inl is ↦
      let j = joint e f is in
      rw is (least_from x (join e f) fs
      ∙ ap (λ z. least_x z fs) (least_by x e.ax e.bx f.ax f.bx j.same_x (in_range e.ax f.bx e.bx j.between_x).0))
  | inr other ↦ rw other (least_from (int_min x (int_min e.ax e.bx)) f fs)
]

greatest_from : (x : ℤ) (e : Edge) (fs : List Edge) → greatest_x x (joined_from e fs) ≡ greatest_x x (e ∷ fs)
greatest_from x e [] = refl
greatest_from x e (f ∷ fs) = elim (cases_Bool (joins e f)) [
  | inl is ↦
      let j = joint e f is in
      rw is (greatest_from x (join e f) fs
      ∙ ap (λ z. greatest_x z fs) (greatest_by x e.ax e.bx f.ax f.bx j.same_x (in_range e.ax f.bx e.bx j.between_x).1))
  | inr other ↦ rw other (greatest_from (int_max x (int_max e.ax e.bx)) f fs)
]

reach_of : (x : ℤ) (es : List Edge) → (least_x x (joined es) ≡ least_x x es) × (greatest_x x (joined es) ≡ greatest_x x es)
reach_of x [] = (refl, refl)
reach_of x (e ∷ es) = (least_from x e es, greatest_from x e es)

pub reach_alike : JoinedReachAlike
reach_alike x es = reach_of x es
