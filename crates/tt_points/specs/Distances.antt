-- Apple TrueType Reference Manual, "Graphics State" (round state, minimum distance, single width, auto flip, control
-- value cut-in): rules that change a distance before a point is moved to it. Distances are in 26.6 pixels.
use Rattle.std.specs.Prelude.{◌≡◌, ℤ, pos, negsuc, ◌-ℤ◌, neg_ℤ, int_lt, unsigned_abs, Bool, ◌&&◌, ◌||◌, if◌then◌else◌, refl}
use Rattle.std.specs.Int.{int_max, int_min}
use Rattle.tt_state.specs.declared.graphics_state.GraphicsState.{GraphicsState}
use Rattle.tt_state.specs.GraphicsState.{default_state}
use Rattle.tt_state.specs.Rounding.{rounded}
use Rattle.tt_points.specs.declared.distances.Keeping.{Keeping}

abbrev pub magnitude : ℤ → ℤ
magnitude d = pos (unsigned_abs d)

-- a magnitude with the sign of a distance; 0 counts as positive
abbrev pub signed : ℤ → ℤ → ℤ
signed d m = if int_lt d (pos 0) then neg_ℤ m else m

-- the magnitude of the difference
abbrev pub apart : ℤ → ℤ → ℤ
apart a b = magnitude (a -ℤ b)

-- the single width with the sign of d, if their magnitudes differ by less than the single-width cut-in; otherwise d
unfoldable pub single_width : GraphicsState → ℤ → ℤ
single_width g d =
    if int_lt (apart (magnitude d) (magnitude g.single_width)) g.single_cut_in then signed d (magnitude g.single_width)
    else d

-- the distance e, at least the minimum distance from 0 on the side of d
abbrev pub at_least_minimum : GraphicsState → ℤ → ℤ → ℤ
at_least_minimum g d e = if int_lt d (pos 0) then int_min e (neg_ℤ g.min_distance) else int_max e g.min_distance

-- a distance, rounded if the options say so, and a distance, at least the minimum if the options say so
abbrev pub rounded_by : Keeping → GraphicsState → ℤ → ℤ
rounded_by k g e = if k.round then rounded g.round e else e

abbrev pub spaced_by : Keeping → GraphicsState → ℤ → ℤ → ℤ
spaced_by k g d e = if k.minimum_distance then at_least_minimum g d e else e

-- whether two distances have opposite signs
abbrev pub is_opposite : ℤ → ℤ → Bool
is_opposite d c = (int_lt d (pos 0) && int_lt (pos 0) c) || (int_lt (pos 0) d && int_lt c (pos 0))

-- with auto flip, a control value gets the sign of the measured distance, if their signs are opposite
abbrev pub flipped : GraphicsState → ℤ → ℤ → ℤ
flipped g d c = if g.auto_flip && is_opposite d c then neg_ℤ c else c

-- the control value, or the measured distance if they differ by more than the cut-in
abbrev pub cut_in : GraphicsState → ℤ → ℤ → ℤ
cut_in g d c = if int_lt g.cut_in (apart c d) then d else c

-- the options of MDRP and MIRP
abbrev pub keeping : Bool → Bool → Bool → Keeping
keeping set_rp0 minimum_distance round =
    record { set_rp0 = set_rp0; minimum_distance = minimum_distance; round = round }

-- worked values
abbrev hundred_wide : ℤ → GraphicsState
hundred_wide cut_in = record default_state { single_width = negsuc 99; single_cut_in = cut_in }

near_the_single_width : single_width (hundred_wide (pos 11)) (negsuc 89) ≡ negsuc 99
unfolding single_width
near_the_single_width = refl

at_the_cut_in : single_width (hundred_wide (pos 10)) (pos 90) ≡ pos 90
unfolding single_width
at_the_cut_in = refl

not_less_than_a_pixel : at_least_minimum default_state (negsuc 9) (pos 0) ≡ negsuc 63
not_less_than_a_pixel = refl

a_value_turned : flipped default_state (negsuc 0) (pos 70) ≡ negsuc 69
a_value_turned = refl

no_sign_of_nothing : flipped default_state (pos 0) (negsuc 69) ≡ negsuc 69
no_sign_of_nothing = refl

a_value_at_the_cut_in : cut_in default_state (pos 0) (pos 68) ≡ pos 68
a_value_at_the_cut_in = refl

past_the_cut_in : cut_in default_state (pos 0) (pos 69) ≡ pos 0
past_the_cut_in = refl
