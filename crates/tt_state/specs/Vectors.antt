-- Apple TrueType Reference Manual, "Graphics State" (projection vector, freedom vector, dual projection vector) and
-- "Instruction Set" (SPVTL, SFVTL, SDPVTL, SPVFS, SFVFS). Coordinates and distances are in 26.6 pixels. The parts of a
-- unit vector are in 2.14: 16384 is 1.
use Rattle.std.specs.Prelude.{◌≡◌, ℕ, zero, suc, ◌+◌, ◌*◌, ◌/◌, ◌^◌, ◌≤◌, ◌==◌, nat_lt, nat_le, max, Bool, true, false, if◌then◌else◌, ℤ, pos, negsuc, ◌+ℤ◌, ◌-ℤ◌, ◌*ℤ◌, neg_ℤ, int_lt, unsigned_abs, refl, [], ◌∷◌, map}
use Rattle.tt_core.specs.Numbers.{rounded_quotient}

-- the parts of a vector, or the coordinates of a place
pub record Pair : Type 0 where
  pub x : ℤ
  pub y : ℤ

abbrev pub pair : ℤ → ℤ → Pair
pair x y = record { x = x; y = y }

-- the ranges of a unit vector. Neither a part nor the length is above 1. The magnitude of the greater part is at least
-- half the root of 2
pub record IsUnit (x y : ℤ) : Type 0 where
  pub across : unsigned_abs x ≤ 16384
  pub upward : unsigned_abs y ≤ 16384
  pub short : unsigned_abs x * unsigned_abs x + unsigned_abs y * unsigned_abs y ≤ 2 ^ 28
  pub long : 11585 ≤ max (unsigned_abs x) (unsigned_abs y)

-- the greatest whole number whose square is at most n, for an n below 4 ^ k. It is that of n / 4 with one more binary
-- digit
unfoldable pub root : ℕ → ℕ → ℕ
root zero n = 0
root (suc k) n = let r = 2 * root k (n / 4) in if nat_le ((r + 1) * (r + 1)) n then r + 1 else r

abbrev pub square : ℤ → ℕ
square v = unsigned_abs v * unsigned_abs v

-- the magnitude of a part with square s, in a vector with squared length l: 16384 root s / root l, cut (profile)
abbrev pub magnitude : ℕ → ℕ → ℕ
magnitude s l = root 15 (2 ^ 28 * s / l)

abbrev pub part : ℤ → ℕ → ℤ
part v l = if int_lt v (pos 0) then neg_ℤ (pos (magnitude (square v) l)) else pos (magnitude (square v) l)

-- the unit vector of a direction, or the x axis if there is no direction (profile)
unfoldable pub unit : ℤ → ℤ → Pair
unit x y =
    let l = square x + square y in
    if l == 0 then pair (pos 16384) (pos 0) else pair (part x l) (part y l)

-- the unit vector of a line from one place to another, or that vector turned counterclockwise by a quarter turn. If the
-- places are equal, it is the x axis, turned or not (profile)
abbrev pub line : Pair → Pair → Bool → Pair
line from to turned =
    if turned then unit (neg_ℤ (to.y -ℤ from.y)) (to.x -ℤ from.x) else unit (to.x -ℤ from.x) (to.y -ℤ from.y)

-- the distance of a place along a unit vector; the sum is rounded once (profile)
unfoldable pub project : Pair → ℤ → ℤ → ℤ
project v x y = rounded_quotient (x *ℤ v.x +ℤ y *ℤ v.y) (pos 16384)

-- the distances along each axis of a distance along a unit vector
unfoldable pub along : Pair → ℤ → Pair
along v d = pair (rounded_quotient (d *ℤ v.x) (pos 16384)) (rounded_quotient (d *ℤ v.y) (pos 16384))

-- the length of the freedom vector along the projection vector, in 2.14; a magnitude below a sixteenth counts as 1
-- (profile)
abbrev pub counted : ℤ → ℤ
counted whole = if nat_lt (unsigned_abs whole) 1024 then pos 16384 else whole

abbrev pub dot : Pair → Pair → ℤ
dot projection freedom = counted (project projection freedom.x freedom.y)

-- worked values
-- 3 by 4, straight down, diagonal, 1 by 2, and downwards
slanted_units : map (λ (v : Pair). unit v.x v.y)
    (pair (pos 3) (pos 4) ∷ pair (pos 0) (negsuc 4) ∷ pair (pos 1) (pos 1) ∷ pair (pos 1) (pos 2)
    ∷ pair (pos 2) (negsuc 0) ∷ [])
    ≡ pair (pos 9830) (pos 13107) ∷ pair (pos 0) (negsuc 16383) ∷ pair (pos 11585) (pos 11585)
    ∷ pair (pos 7327) (pos 14654) ∷ pair (pos 14654) (negsuc 7326) ∷ []
unfolding unit root
slanted_units = refl

-- one in a thousand, and never the axis itself
units_near_an_axis : map (λ (v : Pair). unit v.x v.y)
    (pair (pos 1) (pos 1000) ∷ pair (pos 4194302) (pos 1) ∷ pair (pos 16382) (pos 255) ∷ [])
    ≡ pair (pos 16) (pos 16383) ∷ pair (pos 16383) (pos 0) ∷ pair (pos 16382) (pos 255) ∷ []
unfolding unit root
units_near_an_axis = refl

no_direction : unit (pos 0) (pos 0) ≡ pair (pos 16384) (pos 0)
unfolding unit root
no_direction = refl

-- upwards, and turned left
line_and_turned_line : map (line (pair (pos 0) (pos 0)) (pair (pos 100) (pos 200))) (false ∷ true ∷ [])
    ≡ pair (pos 7327) (pos 14654) ∷ pair (negsuc 14653) (pos 7327) ∷ []
unfolding unit root
line_and_turned_line = refl

one_place : line (pair (pos 100) (pos 200)) (pair (pos 100) (pos 200)) true ≡ pair (pos 16384) (pos 0)
unfolding unit root
one_place = refl

-- along the vector and at right angles to it, a pixel to the right and to the left, and below a half
projected : map (λ (d : Pair). project (pair (pos 7327) (pos 14654)) d.x d.y)
    (pair (pos 100) (pos 200) ∷ pair (pos 200) (negsuc 99) ∷ pair (pos 64) (pos 0) ∷ pair (negsuc 63) (pos 0)
    ∷ pair (pos 1) (pos 0) ∷ [])
    ≡ pos 224 ∷ pos 0 ∷ pos 29 ∷ negsuc 28 ∷ pos 0 ∷ []
unfolding project
projected = refl

-- a pixel, and the least distance
moved_along_it : map (along (pair (pos 7327) (pos 14654))) (pos 64 ∷ pos 1 ∷ [])
    ≡ pair (pos 29) (pos 57) ∷ pair (pos 0) (pos 1) ∷ []
unfolding along
moved_along_it = refl

-- with the x axis, and with itself
dots_of_a_slant : map (dot (pair (pos 7327) (pos 14654))) (pair (pos 16384) (pos 0) ∷ pair (pos 7327) (pos 14654) ∷ [])
    ≡ pos 7327 ∷ pos 16383 ∷ []
unfolding project
dots_of_a_slant = refl

-- just below a sixteenth, just above it, and at right angles
dots_with_y : map (λ v. dot v (pair (pos 0) (pos 16384)))
    (pair (pos 16352) (pos 1013) ∷ pair (pos 16351) (pos 1030) ∷ pair (pos 16384) (pos 0) ∷ [])
    ≡ pos 16384 ∷ pos 1030 ∷ pos 16384 ∷ []
unfolding project
dots_with_y = refl

dot_of_opposites : dot (pair (pos 16384) (pos 0)) (pair (negsuc 16383) (pos 0)) ≡ negsuc 16383
unfolding project
dot_of_opposites = refl
