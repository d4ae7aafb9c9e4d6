-- Apple TrueType Reference Manual, "Instructing TrueType Glyphs" (phantom points): the distance from a pen to the next.
-- That no step is negative is profile.
use Rattle.std.specs.Prelude.{◌≡◌, ℕ, ◌*◌, ◌≤◌, ℤ, pos, negsuc, ◌+ℤ◌, ◌-ℤ◌, ◌<ℤ◌, ◌≤ℤ◌, unsigned_abs, [], ◌∷◌, map, None, refl}
use Rattle.std.specs.Int.{int_div_euclid}
use Rattle.tt_fit_outline.specs.Outline.{IsOutline, Outline}

-- a negative number counts as 0
abbrev pub at_least_zero : ℤ → ℕ
at_least_zero (pos n) = n
at_least_zero (negsuc n) = 0

-- a distance in whole pixels, a half up, and at least 0
abbrev pub pixels_of : ℤ → ℕ
pixels_of v = at_least_zero (int_div_euclid (v +ℤ pos 32) (pos 64))

-- the distance of the advance's two ends in 26.6 pixels
abbrev pub advance_left : Outline → ℤ
advance_left o = o.phantom.right.0 -ℤ o.phantom.left.0

-- the step of a glyph, in whole pixels
abbrev pub step_of : Outline → ℕ
step_of o = pixels_of (advance_left o)

-- no step is above 65536 pixels
abbrev pub StepsAreBounded : Type 0
StepsAreBounded = (o : Outline) → IsOutline o → step_of o ≤ 65536

-- where the right end is not left of the left one, step and distance differ by at most half a pixel
abbrev pub StepsAreNear : Type 0
StepsAreNear = (o : Outline) → pos 0 ≤ℤ advance_left o
    → unsigned_abs (pos (64 * step_of o) -ℤ advance_left o) ≤ 32

-- else the step is 0
abbrev pub StepsAreForward : Type 0
StepsAreForward = (o : Outline) → advance_left o <ℤ pos 0 → step_of o ≡ 0

-- a glyph whose two ends are moved by the same distance keeps its step
abbrev pub moved_ends : ℤ → Outline → Outline
moved_ends v o = record o {
  phantom = record (o.phantom) {
    left = (o.phantom.left.0 +ℤ v, o.phantom.left.1);
    right = (o.phantom.right.0 +ℤ v, o.phantom.right.1);
  };
}

abbrev pub StepsStay : Type 0
StepsStay = (o : Outline) (v : ℤ) → step_of (moved_ends v o) ≡ step_of o

-- worked values: a glyph whose advance has these two ends
abbrev from_to : ℤ → ℤ → Outline
from_to left right = record {
  points = [];
  ends = [];
  phantom = record {
    left = (left, pos 0);
    right = (right, pos 0);
    ascent = (pos 0, pos 1024);
    descent = (pos 0, pos 0);
  };
  scan = None;
}

-- almost a half more than 4 pixels, and a half more
a_half_goes_up : map (λ right. step_of (from_to (pos 0) right)) (pos 256 ∷ pos 287 ∷ pos 288 ∷ pos 319 ∷ [])
    ≡ 4 ∷ 4 ∷ 5 ∷ 5 ∷ []
a_half_goes_up = refl

half_a_pixel : map (λ right. step_of (from_to (pos 0) right)) (pos 0 ∷ pos 31 ∷ pos 32 ∷ pos 95 ∷ pos 96 ∷ [])
    ≡ 0 ∷ 0 ∷ 1 ∷ 1 ∷ 2 ∷ []
half_a_pixel = refl

-- the left end is moved too
between_two_ends : step_of (from_to (negsuc 20) (pos 75)) ≡ 2
between_two_ends = refl

below_zero : map (λ right. step_of (from_to (pos 0) right)) (negsuc 31 ∷ negsuc 32 ∷ negsuc 95 ∷ negsuc 2047 ∷ [])
    ≡ 0 ∷ 0 ∷ 0 ∷ 0 ∷ []
below_zero = refl

the_longest : step_of (from_to (negsuc 2097150) (pos 2097151)) ≡ 65536
the_longest = refl
