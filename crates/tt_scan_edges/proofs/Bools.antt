-- Laws of `or` and `and`.
use Rattle.std.proofs.Common.{◌≡◌, Bool, true, false, ◌||◌, ◌&&◌, refl}

pub or_false : (b : Bool) → (b || false) ≡ b
or_false true = refl
or_false false = refl

pub or_or : (a b c : Bool) → (a || (b || c)) ≡ ((a || b) || c)
or_or true b c = refl
or_or false b c = refl

-- a conjunction by its first part, and by its second where the first holds
pub both_if : (a b p q : Bool) → p ≡ a → p ≡ true → q ≡ b → q ≡ (a && b)
both_if true b p q is on then = then
both_if false b p q is on then = absurd (cc)

pub neither_if : (a b p : Bool) → p ≡ a → p ≡ false → p ≡ (a && b)
neither_if true b p is off = absurd (cc)
neither_if false b p is off = off
