-- Apple TrueType Reference Manual, "Instruction Set" (ISECT): the meeting point of two lines, each through two places
-- and endless on both sides. Coordinates are in 26.6 pixels.
use Rattle.std.specs.Prelude.{◌≡◌, ◌≤◌, ◌*◌, ℤ, pos, negsuc, ◌+ℤ◌, ◌-ℤ◌, ◌*ℤ◌, int_div, unsigned_abs, nat_le, Bool, if◌then◌else◌, Result, Ok, Err, refl, [], ◌∷◌, map}
use Rattle.tt_core.specs.Limits.{coordinate_limit}
use Rattle.tt_core.specs.Numbers.{rounded_quotient}
use Rattle.tt_core.specs.Outcomes.{◌>>=◌}
use Rattle.tt_core.specs.declared.fault.Why.{Why}
use Rattle.tt_core.specs.declared.fault.Why.TheVariants as why
use Rattle.tt_points_zones.specs.Points.{is_coordinate}
use Rattle.tt_points_zones.specs.declared.meeting.Place.{Place}
use Rattle.tt_points_zones.specs.declared.way.Way.{Way}
use Rattle.tt_points_zones.specs.declared.meeting.FarPlace.{FarPlace}

-- a place whose coordinates are within the limit
pub record IsPlace (p : Place) : Type 0 where
  pub x : unsigned_abs p.x ≤ coordinate_limit
  pub y : unsigned_abs p.y ≤ coordinate_limit

-- the views of the code's ways, and of its places before the limit is tested
abbrev pub way_view : Way → Place
way_view w = record { x = w.x.0; y = w.y.0 }

abbrev pub far_view : FarPlace → Place
far_view p = record { x = p.x; y = p.y }

-- the way between two places, as the place that it reaches from (0, 0)
abbrev pub way_between : Place → Place → Place
way_between from to = record { x = to.x -ℤ from.x; y = to.y -ℤ from.y }

-- the product of two ways' lengths, times the sine of the angle between them, and times its cosine
unfoldable pub cross : Place → Place → ℤ
cross a b = a.x *ℤ b.y -ℤ a.y *ℤ b.x

unfoldable pub dot : Place → Place → ℤ
dot a b = a.x *ℤ b.x +ℤ a.y *ℤ b.y

-- whether the tangent of the angle is at most 1 / 19, so that the angle is at most about 3 degrees, or one of the ways
-- has length 0. This is profile: the manual says parallel
unfoldable pub are_parallel : Place → Place → Bool
are_parallel a b = nat_le (19 * unsigned_abs (cross a b)) (unsigned_abs (dot a b))

-- the place at the fraction n / d of a way from `from`
abbrev pub gone : Place → Place → ℤ → ℤ → Place
gone from way n d = record
    { x = from.x +ℤ rounded_quotient (n *ℤ way.x) d; y = from.y +ℤ rounded_quotient (n *ℤ way.y) d }

-- the meeting point of lines that are not parallel, at a fraction of the way from a0 to a1
unfoldable pub crossing : Place → Place → Place → Place → Place
crossing a0 a1 b0 b1 =
    let a = way_between a0 a1 in
    let b = way_between b0 b1 in
    gone a0 a (cross (way_between a0 b0) b) (cross a b)

-- the middle of four places, cut toward 0 (profile)
abbrev pub quarter : ℤ → ℤ → ℤ → ℤ → ℤ
quarter a b c d = int_div (a +ℤ b +ℤ c +ℤ d) (pos 4)

unfoldable pub middle : Place → Place → Place → Place → Place
middle a b c d = record { x = quarter a.x b.x c.x d.x; y = quarter a.y b.y c.y d.y }

-- the meeting point of the lines through a0 and a1, and through b0 and b1; for parallel lines the middle of the four
-- places
unfoldable pub meeting : Place → Place → Place → Place → Place
meeting a0 a1 b0 b1 =
    if are_parallel (way_between a0 a1) (way_between b0 b1) then middle a0 a1 b0 b1 else crossing a0 a1 b0 b1

-- a coordinate, and a place, within the limit (profile)
abbrev pub limited : ℤ → Result ℤ Why
limited v = if is_coordinate v then Ok v else Err why.ValueRange

abbrev pub limited_place : Place → Result Place Why
limited_place p = limited p.x >>= λ x. limited p.y >>= λ y. Ok (record { x = x; y = y })

unfoldable pub met : Place → Place → Place → Place → Result Place Why
met a0 a1 b0 b1 = limited_place (meeting a0 a1 b0 b1)

-- worked values
abbrev place : ℤ → ℤ → Place
place x y = record { x = x; y = y }

before_the_first_place : met (place (pos 0) (pos 0)) (place (pos 100) (pos 200)) (place (pos 300) (pos 64))
    (place (pos 428) (pos 192)) ≡ Ok (place (negsuc 235) (negsuc 471))
unfolding met meeting are_parallel crossing middle cross dot
before_the_first_place = refl

-- a line that rises by one in twenty meets the level one, and one that rises by one in eighteen
at_small_angles : map (λ b1. met (place (pos 0) (pos 0)) (place (pos 1000) (pos 0)) (place (pos 0) (pos 10)) b1)
    (place (pos 1000) (pos 60) ∷ place (pos 1000) (pos 65) ∷ [])
    ≡ Ok (place (pos 500) (pos 17)) ∷ Ok (place (negsuc 181) (pos 0)) ∷ []
unfolding met meeting are_parallel crossing middle cross dot
at_small_angles = refl

parallel_lines : met (place (pos 0) (pos 0)) (place (negsuc 9) (negsuc 19)) (place (pos 0) (negsuc 4))
    (place (negsuc 9) (negsuc 24)) ≡ Ok (place (negsuc 4) (negsuc 11))
unfolding met meeting are_parallel crossing middle cross dot
parallel_lines = refl

a_line_of_length_0 : met (place (pos 5) (pos 5)) (place (pos 5) (pos 5)) (place (pos 0) (pos 0))
    (place (pos 100) (pos 0)) ≡ Ok (place (pos 27) (pos 2))
unfolding met meeting are_parallel crossing middle cross dot
a_line_of_length_0 = refl

past_the_limit : met (place (pos 0) (pos 0)) (place (pos 1000) (pos 0)) (place (pos 0) (pos 200000))
    (place (pos 18) (pos 199999)) ≡ Err why.ValueRange
unfolding met meeting are_parallel crossing middle cross dot
past_the_limit = refl
