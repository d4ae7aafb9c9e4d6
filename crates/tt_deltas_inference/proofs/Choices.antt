-- The delta between two named points, by each case of the definition.
use Rattle.std.proofs.Common.{◌≡◌, ◌≢◌, Bool, true, false, ℤ, pos, ◌<ℤ◌, int_le, int_lt, refl, arith}
use Rattle.std.specs.Ordering.{int_eq}
use Rattle.std.proofs.lemmas.Bool.Decides.{Decides-int_eq}
use Rattle.std.proofs.lemmas.Int.{ints}
use Rattle.tt_deltas_inference.specs.Inference.{delta_between, in_proportion, inferred, placed}
use Rattle.tt_deltas_inference.specs.declared.point.AxisPoint.{AxisPoint}

not-so : (b : Bool) → (b ≡ true → ⊥) → b ≡ false
not-so true wrong = absurd (wrong refl)
not-so false wrong = refl

equal : (a b : ℤ) → a ≡ b → int_eq a b ≡ true
equal a b same = (Decides-int_eq a b).1 same

unequal : (a b : ℤ) → a ≢ b → int_eq a b ≡ false
unequal a b other = not-so (int_eq a b) (λ same. other ((Decides-int_eq a b).0 same))

pub together : (p lo hi : AxisPoint) → lo.at ≡ hi.at → lo.delta ≡ hi.delta → lo.delta ≡ delta_between p lo hi
together p lo hi same deltas = rw (equal lo.at hi.at same, equal lo.delta hi.delta deltas) refl

pub torn : (p lo hi : AxisPoint) → lo.at ≡ hi.at → lo.delta ≢ hi.delta → pos 0 ≡ delta_between p lo hi
torn p lo hi same deltas = rw (equal lo.at hi.at same, unequal lo.delta hi.delta deltas) refl

pub below : (p lo hi : AxisPoint) → lo.at ≢ hi.at → int_le p.at lo.at ≡ true → lo.delta ≡ delta_between p lo hi
below p lo hi other low = rw (unequal lo.at hi.at other, low) refl

pub beyond : (p lo hi : AxisPoint) → lo.at ≢ hi.at → int_le p.at lo.at ≡ false → int_le hi.at p.at ≡ true
    → hi.delta ≡ delta_between p lo hi
beyond p lo hi other low high = rw (unequal lo.at hi.at other, low, high) refl

above : (a b : ℤ) → b <ℤ a → int_le a b ≡ false
above a b h = grind (arith, ints)

pub inside : (p lo hi : AxisPoint) → lo.at <ℤ p.at → p.at <ℤ hi.at → in_proportion p lo hi ≡ delta_between p lo hi
inside p lo hi low high =
    let other : lo.at ≢ hi.at = omega (arith, ints) in
    rw (unequal lo.at hi.at other, above p.at lo.at low, above hi.at p.at high) refl

-- the neighbours in the order of their coordinates
pub exchanged : (a b p : AxisPoint) → int_lt b.at a.at ≡ true → placed b a p ≡ inferred a b p
unfolding inferred
exchanged a b p less = rw less refl

pub in_order : (a b p : AxisPoint) → int_lt b.at a.at ≡ false → placed a b p ≡ inferred a b p
unfolding inferred
in_order a b p order = rw order refl
