-- Pixels that are black by one or the other.
use Rattle.std.proofs.Common.{◌≡◌, Bool, true, false, ◌&&◌, ◌||◌, refl, sym}

pub or_false : (b : Bool) → (b || false) ≡ b
or_false true = refl
or_false false = refl

pub or_or : (a b c : Bool) → (a || (b || c)) ≡ ((a || b) || c)
or_or true b c = refl
or_or false b c = refl

pub both_more : (a b c d : Bool) → ((a || b) || (c || d)) ≡ ((a || c) || (b || d))
both_more true b c d = refl
both_more false true true d = refl
both_more false true false d = refl
both_more false false c d = refl

pub absorbed : (a x : Bool) → (x || (a && x)) ≡ x
absorbed a true = refl
absorbed true false = refl
absorbed false false = refl

-- under a test, two parts of each
pub parted : (test a b p q : Bool) → ((test && (a || b)) || (p || q)) ≡ (((test && a) || p) || ((test && b) || q))
parted true a b p q = both_more a b p q
parted false a b p q = refl

-- within a width, one and more
pub guarded_or : (inside some one both : Bool) → (inside ≡ true → both ≡ (some || one))
    → ((inside && some) || (inside && one)) ≡ (inside && both)
guarded_or true some one both same = sym (same refl)
guarded_or false some one both same = refl

pub and_false : (inside b : Bool) → b ≡ false → (inside && b) ≡ false
and_false true b off = off
and_false false b off = refl

-- a pixel within a width, over a white one
pub twice_within : (inside old b new : Bool) → old ≡ false → new ≡ (old || (inside && b)) → new ≡ (inside && new)
twice_within true old b new off is = refl
twice_within false old b new off is = rw (is, off) refl

pub shown_within : (inside old b new : Bool) → inside ≡ true → old ≡ false → new ≡ (old || (inside && b)) → new ≡ b
shown_within inside old b new on off is = rw (is, off, on) refl

-- a row with the glyphs, and then with the dropouts
pub both_shown : (inside some one first then : Bool) → first ≡ (inside && some) → then ≡ (first || (inside && one))
    → then ≡ (inside && (some || one))
both_shown true some one first then is next = rw (next, is) refl
both_shown false some one first then is next = rw (next, is) refl
