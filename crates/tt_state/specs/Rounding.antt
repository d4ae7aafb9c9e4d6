-- Apple TrueType Reference Manual, "Graphics State" (round state) and "Instruction Set" (RTG, RTHG, RTDG, RDTG, RUTG,
-- ROFF, SROUND, S45ROUND). Distances are in 26.6 pixels.
use Rattle.std.specs.Prelude.{◌≡◌, ℕ, if◌then◌else◌, ℤ, pos, negsuc, ◌+ℤ◌, neg_ℤ, int_lt, refl, [], ◌∷◌, map}
use Rattle.tt_state.specs.declared.rounding.Round.{Round}
use Rattle.tt_state.specs.declared.rounding.Round.TheVariants as round
use Rattle.tt_state.specs.Sround.{cut_to, a_pixel, half_a_diagonal, super_of, rounded_by}

-- a rounded magnitude
abbrev pub rounded_magnitude : Round → ℤ → ℤ
rounded_magnitude round.Grid m = cut_to 64 (m +ℤ pos 32)
rounded_magnitude round.Half m = cut_to 64 m +ℤ pos 32
rounded_magnitude round.Double m = cut_to 32 (m +ℤ pos 16)
rounded_magnitude round.Down m = cut_to 64 m
rounded_magnitude round.Up m = cut_to 64 (m +ℤ pos 63)
rounded_magnitude round.Off m = m
rounded_magnitude (round.Super s) m = rounded_by s m

-- a rounded distance: the rounded magnitude with the distance's sign; 0 counts as positive
abbrev pub rounded : Round → ℤ → ℤ
rounded state v =
    if int_lt v (pos 0) then neg_ℤ (rounded_magnitude state (neg_ℤ v)) else rounded_magnitude state v

-- the state that a byte sets with SROUND
abbrev pub super_state : ℕ → Round
super_state byte = round.Super (super_of a_pixel byte)

-- the state that a byte sets with S45ROUND
abbrev pub super_state_at_45 : ℕ → Round
super_state_at_45 byte = round.Super (super_of half_a_diagonal byte)

-- worked values
to_the_grid : map (rounded round.Grid) (pos 32 ∷ negsuc 31 ∷ pos 31 ∷ []) ≡ pos 64 ∷ negsuc 63 ∷ pos 0 ∷ []
to_the_grid = refl

to_a_half : map (rounded round.Half) (pos 64 ∷ negsuc 0 ∷ []) ≡ pos 96 ∷ negsuc 31 ∷ []
to_a_half = refl

to_the_double_grid : rounded round.Double (pos 16) ≡ pos 32
to_the_double_grid = refl

up_and_down : map (λ state. rounded state (negsuc 126)) (round.Up ∷ round.Down ∷ []) ≡ negsuc 127 ∷ negsuc 63 ∷ []
up_and_down = refl

up : rounded round.Up (pos 1) ≡ pos 64
up = refl

minus_ten : rounded (super_state 0x59) (negsuc 9) ≡ negsuc 15
minus_ten = refl

-- a half period goes away from 0
at_45 : map (rounded (super_state_at_45 0x48)) (pos 67 ∷ pos 68 ∷ negsuc 22 ∷ []) ≡ pos 45 ∷ pos 90 ∷ negsuc 44 ∷ []
at_45 = refl

up_at_45 : map (rounded (super_state_at_45 0x40)) (pos 46 ∷ pos 0 ∷ []) ≡ pos 90 ∷ pos 0 ∷ []
up_at_45 = refl
