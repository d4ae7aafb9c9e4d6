-- Phantom points within their limit, one by one.
use Rattle.std.proofs.Common.{◌≡◌, ℕ, ◌≤◌, Bool, true, false, ℤ, ◌+ℤ◌, unsigned_abs, Ok, Err, refl, arith}
use Rattle.std.specs.Prelude.{◌&&◌}
use Rattle.std.proofs.lemmas.Bool.Decides.{nat_tests}
use Rattle.tt_axes.specs.Rounding.{whole_units}
use Rattle.tt_fit_outline.specs.Outline.{PhantomPoints}
use Rattle.tt_fit_outline.specs.Scaling.{coordinate_fault}
use Rattle.tt_fit_variation.specs.Ends.{EndDeltas, are_ends, end_limit, ends_in_units, is_end, moved_ends}

pub all-ends : (p : PhantomPoints) (d : EndDeltas) → is_end (p.left.0 +ℤ whole_units d.left) ≡ true
    → is_end (p.right.0 +ℤ whole_units d.right) ≡ true → is_end (p.ascent.1 +ℤ whole_units d.ascent) ≡ true
    → is_end (p.descent.1 +ℤ whole_units d.descent) ≡ true → are_ends (moved_ends p d) ≡ true
all-ends p d left right ascent descent = rw (left, right, ascent, descent) refl

pub ends-made : (at : ℕ) (p : PhantomPoints) (d : EndDeltas) → are_ends (moved_ends p d) ≡ true → ends_in_units at p d ≡ Ok (moved_ends p d)
unfolding ends_in_units
ends-made at p d all = rw all refl

pub right-out : (at : ℕ) (p : PhantomPoints) (d : EndDeltas) → is_end (p.left.0 +ℤ whole_units d.left) ≡ true
    → is_end (p.right.0 +ℤ whole_units d.right) ≡ false → ends_in_units at p d ≡ Err (coordinate_fault at)
unfolding ends_in_units
right-out at p d left right = rw (left, right) refl

pub ascent-out : (at : ℕ) (p : PhantomPoints) (d : EndDeltas) → is_end (p.left.0 +ℤ whole_units d.left) ≡ true
    → is_end (p.right.0 +ℤ whole_units d.right) ≡ true → is_end (p.ascent.1 +ℤ whole_units d.ascent) ≡ false
    → ends_in_units at p d ≡ Err (coordinate_fault at)
unfolding ends_in_units
ascent-out at p d left right ascent = rw (left, right, ascent) refl

pub descent-out : (at : ℕ) (p : PhantomPoints) (d : EndDeltas) → is_end (p.left.0 +ℤ whole_units d.left) ≡ true
    → is_end (p.right.0 +ℤ whole_units d.right) ≡ true → is_end (p.ascent.1 +ℤ whole_units d.ascent) ≡ true
    → is_end (p.descent.1 +ℤ whole_units d.descent) ≡ false → ends_in_units at p d ≡ Err (coordinate_fault at)
unfolding ends_in_units
descent-out at p d left right ascent descent = rw (left, right, ascent, descent) refl

and-true : (x y : Bool) → (x && y) ≡ true → (x ≡ true) × (y ≡ true)
and-true true y all = (refl, all)
and-true false y all = absurd cc

end-within : (v : ℤ) → is_end v ≡ true → unsigned_abs v ≤ end_limit
end-within v is = grind (arith, nat_tests)

pub right-within : (p : PhantomPoints) (d : EndDeltas) → are_ends (moved_ends p d) ≡ true
    → unsigned_abs (p.right.0 +ℤ whole_units d.right) ≤ end_limit
right-within p d all = end-within (p.right.0 +ℤ whole_units d.right) (and-true _ _ (and-true _ _ all).1).0

pub ascent-within : (p : PhantomPoints) (d : EndDeltas) → are_ends (moved_ends p d) ≡ true
    → unsigned_abs (p.ascent.1 +ℤ whole_units d.ascent) ≤ end_limit
ascent-within p d all = end-within (p.ascent.1 +ℤ whole_units d.ascent) (and-true _ _ (and-true _ _ (and-true _ _ all).1).1).0

pub descent-within : (p : PhantomPoints) (d : EndDeltas) → are_ends (moved_ends p d) ≡ true
    → unsigned_abs (p.descent.1 +ℤ whole_units d.descent) ≤ end_limit
descent-within p d all =
    let ends = moved_ends p d in
    let others = and-true (is_end ends.left.0) (is_end ends.right.0 && (is_end ends.ascent.1 && is_end ends.descent.1)) all in
    let last = and-true (is_end ends.right.0) (is_end ends.ascent.1 && is_end ends.descent.1) others.1 in
    end-within (p.descent.1 +ℤ whole_units d.descent) (and-true (is_end ends.ascent.1) (is_end ends.descent.1) last.1).1
