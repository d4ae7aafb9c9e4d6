-- What the crossing of an edge leaves in a row.
use Rattle.std.proofs.Common.{◌≡◌, ◌∙◌, ap, sym, Bool, not, ◌∷◌, length, List, refl, ℕ, ◌||◌, [], ℤ, arith}
use Rattle.std.specs.List.Sorted.{IsPermutation}
use Rattle.tt_scan_edges.specs.declared.edge.Cross.{Cross}
use Rattle.tt_scan_edges.specs.declared.edge.Edge.{Edge}
use Rattle.tt_scan_edges.specs.declared.mark.TurnMark.{TurnMark}
use Rattle.tt_scan_edges.specs.Crossing.{IsCross}
use Rattle.tt_scan_edges.specs.Left.{Left, HasCross, HasLeft, IsBlank, IsLeftBy}
use Rattle.tt_scan_edges.specs.Marks.{turns}
use Rattle.tt_scan_edges.specs.Winding.{is_zero}
use Rattle.tt_scan_edges.proofs.Bools.{or_false}
use Rattle.tt_scan_edges.proofs.Stretches.{turns_permuted}

pub left_by_cross : (e : Edge) (m : ℕ) (y : ℤ) (x : Cross) (k l : Left) → IsCross e m y x → HasCross x k l → HasLeft e m y k l
left_by_cross e m y x k l exact has = record {
  black = λ c. rw (exact.touch c) (has.black c);
  turn = λ c. rw (exact.right c) (has.turn c);
  whole = has.whole;
  room = has.room;
}

pub left_settled : (es : List Edge) (m : ℕ) (y : ℤ) (most : ℕ) (k l : Left) → IsLeftBy es m y most k → IsPermutation k.marks l.marks
    → l ≡ record k { marks = l.marks } → IsLeftBy es m y most l
left_settled es m y most k l are same is =
    let black : l.black ≡ k.black = ap (λ (x : Left). x.black) is in
    let whole : l.most ≡ k.most = ap (λ (x : Left). x.most) is in
    let room : l.room ≡ k.room = ap (λ (x : Left). x.room) is in
    let before = are.room in
    record {
      black = λ c. rw black (are.black c);
      turn = λ c. turns_permuted k.marks l.marks c same ∙ are.turn c;
      whole = whole ∙ are.whole;
      room = omega (arith, room, before);
    }

pub blank_left : (m : ℕ) (y : ℤ) (l : Left) → IsBlank l → IsLeftBy [] m y l.most l
blank_left m y l is = record {
  black = λ c. rw is.white refl;
  turn = λ c. rw is.none refl;
  whole = refl;
  room = let room = is.room in omega arith;
}

-- no marks, no turns
pub none_turned : (ms : List TurnMark) (c : ℤ) (b : Bool) → length ms ≡ 0 → b ≡ (b || not (is_zero (turns ms c)))
none_turned [] c b none = sym (or_false b)
none_turned (m ∷ ms) c b none = absurd (omega (arith, none))
