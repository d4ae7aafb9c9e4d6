-- The least box of black pixels: two joined are the box of both, and the box moves with its pixels.
use Rattle.std.proofs.Common.{◌≡◌, ◌∙◌, ap, sym, inl, inr, Bool, true, false, ◌||◌, if◌then◌else◌, Some, None, ℤ, ◌+ℤ◌, ◌-ℤ◌, arith}
use Rattle.std.specs.Int.{int_max, int_min}
use Rattle.std.specs.Prelude.{int_lt}
use Rattle.std.proofs.lemmas.Int.{clamps, ints}
use Rattle.tt_bitmap.specs.Inks.{IsInBox, IsLeastBox, joined_boxes}
use Rattle.tt_bitmap.specs.Laws.{InkMoves, JoinedHoldsBoth}
use Rattle.tt_bitmap.specs.declared.ink.LeastBox.{LeastBox}
use Rattle.tt_bitmap.proofs.Bools.{either, or_false, or_true}

abbrev box_of : ℤ → ℤ → ℤ → ℤ → LeastBox
box_of left bottom right top = record { left = left; bottom = bottom; right = right; top = top }

pub same_box : (a b : LeastBox) → a.left ≡ b.left → a.bottom ≡ b.bottom → a.right ≡ b.right → a.top ≡ b.top → a ≡ b
same_box a b left bottom right top =
    ap (λ z. box_of z a.bottom a.right a.top) left ∙ ap (λ z. box_of b.left z a.right a.top) bottom
    ∙ ap (λ z. box_of b.left b.bottom z a.top) right ∙ ap (λ z. box_of b.left b.bottom b.right z) top

pub alike_least : (a b : ℤ → ℤ → Bool) (x : LeastBox) → ((c j : ℤ) → b c j ≡ a c j) → IsLeastBox a x → IsLeastBox b x
alike_least a b x same p = record {
  within = λ c j is. p.within c j (sym (same c j) ∙ is);
  left = (p.left.0, same x.left p.left.0 ∙ p.left.1);
  right = (p.right.0, same x.right p.right.0 ∙ p.right.1);
  bottom = (p.bottom.0, same p.bottom.0 x.bottom ∙ p.bottom.1);
  top = (p.top.0, same p.top.0 x.top ∙ p.top.1);
}

chosen : (P : ℤ → Type 0) (test : Bool) (x y : ℤ) → P x → P y → P (if test then x else y)
chosen P true x y p q = p
chosen P false x y p q = q

least_of : (P : ℤ → Type 0) (x y : ℤ) → P x → P y → P (int_min x y)
least_of P x y p q = chosen P (int_lt y x) y x q p

greatest_of : (P : ℤ → Type 0) (x y : ℤ) → P x → P y → P (int_max x y)
greatest_of P x y p q = chosen P (int_lt y x) x y p q

in_first : (x y : LeastBox) (c j : ℤ) → IsInBox x c j → IsInBox (joined_boxes x y) c j
in_first x y c j h = record {
  left = omega (arith, ints, clamps, h.left);
  right = omega (arith, ints, clamps, h.right);
  bottom = omega (arith, ints, clamps, h.bottom);
  top = omega (arith, ints, clamps, h.top);
}

in_second : (x y : LeastBox) (c j : ℤ) → IsInBox y c j → IsInBox (joined_boxes x y) c j
in_second x y c j h = record {
  left = omega (arith, ints, clamps, h.left);
  right = omega (arith, ints, clamps, h.right);
  bottom = omega (arith, ints, clamps, h.bottom);
  top = omega (arith, ints, clamps, h.top);
}

both_least : (a b : ℤ → ℤ → Bool) (x y : LeastBox) → IsLeastBox a x → IsLeastBox b y → IsLeastBox (λ c j. a c j || b c j) (joined_boxes x y)
both_least a b x y p q =
    let first : (c j : ℤ) → a c j ≡ true → (a c j || b c j) ≡ true = λ c j is. ap (λ t. t || b c j) is in
    let second : (c j : ℤ) → b c j ≡ true → (a c j || b c j) ≡ true = λ c j is. ap (λ t. a c j || t) is ∙ or_true (a c j) in
    record {
      within = λ c j is. elim (either (a c j) (b c j) is) [
        | inl here ↦ in_first x y c j (p.within c j here)
        | inr here ↦ in_second x y c j (q.within c j here)
      ];
      left = least_of (λ c. (j : ℤ) × ((a c j || b c j) ≡ true)) x.left y.left
          (p.left.0, first x.left p.left.0 p.left.1) (q.left.0, second y.left q.left.0 q.left.1);
      right = greatest_of (λ c. (j : ℤ) × ((a c j || b c j) ≡ true)) x.right y.right
          (p.right.0, first x.right p.right.0 p.right.1) (q.right.0, second y.right q.right.0 q.right.1);
      bottom = least_of (λ j. (c : ℤ) × ((a c j || b c j) ≡ true)) x.bottom y.bottom
          (p.bottom.0, first p.bottom.0 x.bottom p.bottom.1) (q.bottom.0, second q.bottom.0 y.bottom q.bottom.1);
      top = greatest_of (λ j. (c : ℤ) × ((a c j || b c j) ≡ true)) x.top y.top
          (p.top.0, first p.top.0 x.top p.top.1) (q.top.0, second q.top.0 y.top q.top.1);
    }

pub both_held : JoinedHoldsBoth
both_held a b None None p q = λ c j. ap (λ t. t || b c j) (p c j) ∙ q c j
both_held a b None (Some y) p q = alike_least b (λ c j. a c j || b c j) y (λ c j. ap (λ t. t || b c j) (p c j)) q
both_held a b (Some x) None p q =
    alike_least a (λ c j. a c j || b c j) x (λ c j. ap (λ t. a c j || t) (q c j) ∙ sym (or_false (a c j))) p
both_held a b (Some x) (Some y) p q = both_least a b x y p q

back : (z by : ℤ) → (z +ℤ by) -ℤ by ≡ z
back z by = omega (arith, ints)

pub box_moves : InkMoves
box_moves black b right up p = record {
  within = λ c j is.
      let own = p.within (c -ℤ right) (j -ℤ up) is in
      record {
        left = omega (arith, ints, own.left);
        right = omega (arith, ints, own.right);
        bottom = omega (arith, ints, own.bottom);
        top = omega (arith, ints, own.top);
      };
  left = (p.left.0 +ℤ up, rw (back b.left right, back p.left.0 up) p.left.1);
  right = (p.right.0 +ℤ up, rw (back b.right right, back p.right.0 up) p.right.1);
  bottom = (p.bottom.0 +ℤ right, rw (back b.bottom up, back p.bottom.0 right) p.bottom.1);
  top = (p.top.0 +ℤ right, rw (back b.top up, back p.top.0 right) p.top.1);
}
