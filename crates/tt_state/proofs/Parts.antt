-- The parts of vectors.
use Rattle.std.proofs.Common.{◌≡◌, Bool, true, false, ◌&&◌, if◌then◌else◌, ℤ, pos, int_eq, ap, ◌∙◌, sym, refl}
use Rattle.std.proofs.lemmas.Bool.{and_parts, false_from_ne_true}
use Rattle.std.proofs.lemmas.Bool.Decides.{Decides-int_eq}
use Rattle.tt_state.specs.Vectors.{Pair, pair}
use Rattle.tt_state.specs.Axes.{pair_of, vector_of}
use Rattle.tt_state.specs.declared.vector.Vector.TheVariants as vector

same_parts : (p : Pair) (a b : ℤ) → (int_eq p.x a && int_eq p.y b) ≡ true → pair a b ≡ p
same_parts p a b h =
    let both = and_parts (int_eq p.x a) (int_eq p.y b) h in
    let x : p.x ≡ a = (Decides-int_eq p.x a).0 both.0 in
    let y : p.y ≡ b = (Decides-int_eq p.y b).0 both.1 in
    sym (ap (λ (v : ℤ). pair v p.y) x ∙ ap (λ (v : ℤ). pair a v) y)

kept : (p : Pair) (on_x on_y : Bool) → (on_x ≡ true → pair (pos 16384) (pos 0) ≡ p)
    → (on_y ≡ true → pair (pos 0) (pos 16384) ≡ p)
    → pair_of (if on_x then vector.X else (if on_y then vector.Y else vector.Off p)) ≡ p
kept p true on_y x y = x refl
kept p false true x y = y refl
kept p false false x y = refl

pub parts_kept : (p : Pair) → pair_of (vector_of p) ≡ p
unfolding vector_of
parts_kept p = kept p _ _ (same_parts p (pos 16384) (pos 0)) (same_parts p (pos 0) (pos 16384))

pub of_x : (x y : ℤ) → x ≡ pos 16384 → y ≡ pos 0 → vector.X ≡ vector_of (pair x y)
unfolding vector_of
of_x x y p q = rw (p, q) refl

pub of_y : (x y : ℤ) → x ≡ pos 0 → y ≡ pos 16384 → vector.Y ≡ vector_of (pair x y)
unfolding vector_of
of_y x y p q = rw (p, q) refl

other_parts : (x y a b : ℤ) → (x ≡ a → y ≡ b → ⊥) → (int_eq x a && int_eq y b) ≡ false
other_parts x y a b other =
    false_from_ne_true (int_eq x a && int_eq y b) (λ h.
    let both = and_parts (int_eq x a) (int_eq y b) h in
    other ((Decides-int_eq x a).0 both.0) ((Decides-int_eq y b).0 both.1))

pub of_neither : (x y : ℤ) → (x ≡ pos 16384 → y ≡ pos 0 → ⊥) → (x ≡ pos 0 → y ≡ pos 16384 → ⊥)
    → vector.Off (pair x y) ≡ vector_of (pair x y)
unfolding vector_of
of_neither x y p q =
    rw (other_parts x y (pos 16384) (pos 0) p, other_parts x y (pos 0) (pos 16384) q) refl
