-- The least box of black pixels: there is only one, and two joined are the box of both.
use Rattle.std.proofs.Common.{◌≡◌, ◌∙◌, ap, sym, refl, Bool, true, false, ◌||◌, Option, Some, None, ℤ, arith}
use Rattle.std.proofs.lemmas.Bool.{false≢true}
use Rattle.std.proofs.lemmas.Int.{ints}
use Rattle.tt_bitmap.specs.Inks.{IsInk, IsLeastBox, joined}
use Rattle.tt_bitmap.specs.declared.ink.LeastBox.{LeastBox}
use Rattle.tt_bitmap.proofs.BothInks.{alike_least, both_held, same_box}

-- one box only

one_least : (black : ℤ → ℤ → Bool) (a b : LeastBox) → IsLeastBox black a → IsLeastBox black b → a ≡ b
one_least black a b p q =
    let left_a = q.within a.left p.left.0 p.left.1 in
    let left_b = p.within b.left q.left.0 q.left.1 in
    let bottom_a = q.within p.bottom.0 a.bottom p.bottom.1 in
    let bottom_b = p.within q.bottom.0 b.bottom q.bottom.1 in
    let right_a = q.within a.right p.right.0 p.right.1 in
    let right_b = p.within b.right q.right.0 q.right.1 in
    let top_a = q.within p.top.0 a.top p.top.1 in
    let top_b = p.within q.top.0 b.top q.top.1 in
    same_box a b (omega (arith, ints, left_a.left, left_b.left)) (omega (arith, ints, bottom_a.bottom, bottom_b.bottom))
    (omega (arith, ints, right_a.right, right_b.right)) (omega (arith, ints, top_a.top, top_b.top))

no_box : (black : ℤ → ℤ → Bool) (b : LeastBox) → ((c j : ℤ) → black c j ≡ false) → IsLeastBox black b → false ≡ true
no_box black b none least = sym (none b.left least.left.0) ∙ least.left.1

pub one_ink : (black : ℤ → ℤ → Bool) (x y : Option LeastBox) → IsInk black x → IsInk black y → x ≡ y
one_ink black None None p q = refl
one_ink black None (Some b) p q = absurd (false≢true (no_box black b p q))
one_ink black (Some a) None p q = absurd (false≢true (no_box black a q p))
one_ink black (Some a) (Some b) p q = ap Some (one_least black a b p q)

-- the boxes of equal pictures

pub ink_alike : (a b : ℤ → ℤ → Bool) (x : Option LeastBox) → ((c j : ℤ) → b c j ≡ a c j) → IsInk a x → IsInk b x
ink_alike a b None same p = λ c j. same c j ∙ p c j
ink_alike a b (Some x) same p = alike_least a b x same p

-- two joined

pub joined_is : (a b s : ℤ → ℤ → Bool) (x y : Option LeastBox) → ((c j : ℤ) → s c j ≡ (a c j || b c j))
    → IsInk a x → IsInk b y → IsInk s (joined x y)
joined_is a b s x y both p q = ink_alike (λ c j. a c j || b c j) s (joined x y) both (both_held a b x y p q)
