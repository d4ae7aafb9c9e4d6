-- One more of some elements, one of which passes a test.
use Rattle.std.proofs.Common.{◌≡◌, ◌∙◌, ap, refl, sym, Bool, true, false, ◌||◌, List, [], ◌∷◌, ◌++◌}
use Rattle.std.specs.List.{list_any}

or_false : (b : Bool) → b ≡ (b || false)
or_false true = refl
or_false false = refl

or_assoc : (a b d : Bool) → (a || (b || d)) ≡ ((a || b) || d)
or_assoc true b d = refl
or_assoc false b d = refl

pub or_joined : (a b d : Bool) → ((a || b) || d) ≡ (a || (b || d))
or_joined true b d = refl
or_joined false b d = refl

pub any_last : {A : Type 0} (p : A → Bool) (xs : List A) (x : A) → list_any p (xs ++ x ∷ []) ≡ (list_any p xs || p x)
any_last p [] x = sym (or_false (p x))
any_last p (y ∷ ys) x = ap (λ b. p y || b) (any_last p ys x) ∙ or_assoc (p y) (list_any p ys) (p x)
