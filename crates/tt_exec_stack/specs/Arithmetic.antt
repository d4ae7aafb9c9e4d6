-- Apple TrueType Reference Manual, "Instruction set": arithmetic and mathematical functions. Numbers are in 26.6, so 64
-- is one pixel. The top of the stack comes first.
use Rattle.std.specs.Prelude.{◌≡◌, ℕ, ◌+◌, ◌/◌, suc, ℤ, pos, negsuc, neg_ℤ, ◌+ℤ◌, ◌-ℤ◌, ◌*ℤ◌, int_div, unsigned_abs, if◌then◌else◌, List, [], ◌∷◌, Result, Ok, Err, refl}
use Rattle.std.specs.Int.{int_div_euclid, int_max, int_min}
use Rattle.std.specs.Ordering.{int_eq}
use Rattle.tt_core.specs.declared.fault.Why.{Why}
use Rattle.tt_core.specs.declared.fault.Why.TheVariants as why
use Rattle.tt_state.specs.declared.rounding.Round.{Round}
use Rattle.tt_state.specs.Rounding.{rounded}
use Rattle.tt_exec_stack.specs.declared.instruction.Arithmetic.{Arithmetic}
use Rattle.tt_exec_stack.specs.declared.instruction.Arithmetic.TheVariants as op
use Rattle.tt_exec_stack.specs.Stack.{pushed}

-- a / b, cut toward zero (profile)
abbrev pub quotient : ℤ → ℤ → ℤ
quotient a b = int_div (a *ℤ pos 64) b

abbrev pub whole_product : ℤ → ℤ → ℤ
whole_product a b = a *ℤ b

-- v / 64 rounded to the nearest whole number, a half away from zero (profile)
abbrev pub nearest_64th : ℤ → ℤ
nearest_64th (pos m) = pos ((m + 32) / 64)
nearest_64th (negsuc m) = neg_ℤ (pos ((suc m + 32) / 64))

abbrev pub product : ℤ → ℤ → ℤ
product a b = nearest_64th (whole_product a b)

-- the greatest whole pixel not above, the least not below
abbrev pub pixel_below : ℤ → ℤ
pixel_below n = int_div_euclid n (pos 64) *ℤ pos 64

abbrev pub pixel_above : ℤ → ℤ
pixel_above n = neg_ℤ (pixel_below (neg_ℤ n))

abbrev pub add : List ℤ → Result (List ℤ) Why
add (b ∷ a ∷ s) = pushed (a +ℤ b) s
add _ = Err why.StackShort

abbrev pub sub : List ℤ → Result (List ℤ) Why
sub (b ∷ a ∷ s) = pushed (a -ℤ b) s
sub _ = Err why.StackShort

abbrev pub div : List ℤ → Result (List ℤ) Why
div (b ∷ a ∷ s) = if int_eq b (pos 0) then Err why.DivZero else pushed (quotient a b) s
div _ = Err why.StackShort

abbrev pub mul : List ℤ → Result (List ℤ) Why
mul (b ∷ a ∷ s) = pushed (product a b) s
mul _ = Err why.StackShort

abbrev pub abs : List ℤ → Result (List ℤ) Why
abs (n ∷ s) = pushed (pos (unsigned_abs n)) s
abs [] = Err why.StackShort

abbrev pub neg : List ℤ → Result (List ℤ) Why
neg (n ∷ s) = pushed (neg_ℤ n) s
neg [] = Err why.StackShort

abbrev pub floor : List ℤ → Result (List ℤ) Why
floor (n ∷ s) = pushed (pixel_below n) s
floor [] = Err why.StackShort

abbrev pub ceiling : List ℤ → Result (List ℤ) Why
ceiling (n ∷ s) = pushed (pixel_above n) s
ceiling [] = Err why.StackShort

abbrev pub round : Round → List ℤ → Result (List ℤ) Why
round state (n ∷ s) = pushed (rounded state n) s
round state [] = Err why.StackShort

abbrev pub nround : List ℤ → Result (List ℤ) Why
nround (n ∷ s) = pushed n s
nround [] = Err why.StackShort

abbrev pub max : List ℤ → Result (List ℤ) Why
max (b ∷ a ∷ s) = pushed (int_max a b) s
max _ = Err why.StackShort

abbrev pub min : List ℤ → Result (List ℤ) Why
min (b ∷ a ∷ s) = pushed (int_min a b) s
min _ = Err why.StackShort

abbrev pub computed : Arithmetic → Round → List ℤ → Result (List ℤ) Why
computed op.Add state s = add s
computed op.Sub state s = sub s
computed op.Div state s = div s
computed op.Mul state s = mul s
computed op.Abs state s = abs s
computed op.Neg state s = neg s
computed op.Floor state s = floor s
computed op.Ceiling state s = ceiling s
computed op.Round state s = round state s
computed op.Nround state s = nround s
computed op.Max state s = max s
computed op.Min state s = min s

-- the count of values that an instruction takes
abbrev pub takes : Arithmetic → ℕ
takes op.Add = 2
takes op.Sub = 2
takes op.Div = 2
takes op.Mul = 2
takes op.Max = 2
takes op.Min = 2
takes other = 1

-- worked values
minus_eight_times_36 : mul (pos 36 ∷ neg_ℤ (pos 8) ∷ []) ≡ Ok (neg_ℤ (pos 5) ∷ [])
unfolding pushed
minus_eight_times_36 = refl

minus_one_by_two_pixels : div (pos 128 ∷ neg_ℤ (pos 1) ∷ []) ≡ Ok (pos 0 ∷ [])
unfolding pushed
minus_one_by_two_pixels = refl

below_minus_one : floor (neg_ℤ (pos 1) ∷ []) ≡ Ok (neg_ℤ (pos 64) ∷ [])
unfolding pushed
below_minus_one = refl

above_minus_one : ceiling (neg_ℤ (pos 1) ∷ []) ≡ Ok (pos 0 ∷ [])
unfolding pushed
above_minus_one = refl

no_magnitude_of_the_least : abs (neg_ℤ (pos 2147483648) ∷ []) ≡ Err why.ValueRange
unfolding pushed
no_magnitude_of_the_least = refl
