-- Tests joined by && and ||.
use Rattle.std.proofs.Common.{◌≡◌, refl, Bool, true, false, ◌&&◌, ◌||◌, ◌⊎◌, inl, inr}
use Rattle.std.proofs.lemmas.Bool.{false≢true}

pub or_false : (b : Bool) → b ≡ (b || false)
or_false true = refl
or_false false = refl

pub or_true : (b : Bool) → (b || true) ≡ true
or_true true = refl
or_true false = refl

pub never : (b : Bool) → (b && false) ≡ false
never true = refl
never false = refl

pub and_assoc : (a b c : Bool) → (a && (b && c)) ≡ ((a && b) && c)
and_assoc true b c = refl
and_assoc false b c = refl

pub or_assoc : (a b c : Bool) → ((a || b) || c) ≡ (a || (b || c))
or_assoc true b c = refl
or_assoc false b c = refl

pub or_off : (b t x : Bool) → t ≡ false → b ≡ (b || (t && x))
or_off b t x off = rw off (or_false b)

pub parts : (a b : Bool) → (a && b) ≡ true → (a ≡ true) × (b ≡ true)
parts true b is = (refl, is)
parts false b is = absurd (false≢true is)

pub either : (a b : Bool) → (a || b) ≡ true → (a ≡ true) ⊎ (b ≡ true)
either true b is = inl refl
either false b is = inr is

-- a common test of two
pub both : (t a b : Bool) → ((t && a) || (t && b)) ≡ (t && (a || b))
both true a b = refl
both false a b = refl

-- a sum where a test holds, and nothing else
pub within_or : (h b a : Bool) → (h && (b || a)) ≡ ((h && b) || (h && a))
within_or true b a = refl
within_or false b a = refl
