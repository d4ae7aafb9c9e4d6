-- Apple TrueType Reference Manual, "Instruction set": logical functions. They push 1 for true and 0 for false; of a
-- popped value, 0 is false and any other is true. The top of the stack comes first.
use Rattle.std.specs.Prelude.{◌≡◌, ℕ, ℤ, pos, neg_ℤ, int_lt, int_le, Bool, true, false, not, ◌&&◌, ◌||◌, List, [], ◌∷◌, Result, Ok, Err, refl}
use Rattle.std.specs.Int.{int_div_euclid, int_rem_euclid}
use Rattle.std.specs.Ordering.{int_eq}
use Rattle.tt_core.specs.declared.fault.Why.{Why}
use Rattle.tt_core.specs.declared.fault.Why.TheVariants as why
use Rattle.tt_state.specs.declared.rounding.Round.{Round}
use Rattle.tt_state.specs.declared.rounding.Round.TheVariants as round
use Rattle.tt_state.specs.Rounding.{rounded}
use Rattle.tt_exec_stack.specs.declared.instruction.Logic.{Logic}
use Rattle.tt_exec_stack.specs.declared.instruction.Logic.TheVariants as op
use Rattle.tt_exec_stack.specs.Stack.{pushed}

abbrev pub truth : Bool → ℤ
truth true = pos 1
truth false = pos 0

abbrev pub is_true : ℤ → Bool
is_true v = not (int_eq v (pos 0))

-- LT: the second entry is less than the top
abbrev pub lt : List ℤ → Result (List ℤ) Why
lt (b ∷ a ∷ s) = pushed (truth (int_lt a b)) s
lt _ = Err why.StackShort

-- LTEQ: at most the top
abbrev pub lteq : List ℤ → Result (List ℤ) Why
lteq (b ∷ a ∷ s) = pushed (truth (int_le a b)) s
lteq _ = Err why.StackShort

-- GT: greater
abbrev pub gt : List ℤ → Result (List ℤ) Why
gt (b ∷ a ∷ s) = pushed (truth (int_lt b a)) s
gt _ = Err why.StackShort

-- GTEQ: at least
abbrev pub gteq : List ℤ → Result (List ℤ) Why
gteq (b ∷ a ∷ s) = pushed (truth (int_le b a)) s
gteq _ = Err why.StackShort

-- EQ: the same number
abbrev pub eq : List ℤ → Result (List ℤ) Why
eq (b ∷ a ∷ s) = pushed (truth (int_eq a b)) s
eq _ = Err why.StackShort

-- NEQ: a number other than the top
abbrev pub neq : List ℤ → Result (List ℤ) Why
neq (b ∷ a ∷ s) = pushed (truth (not (int_eq a b))) s
neq _ = Err why.StackShort

-- a distance in 26.6 within an odd pixel
abbrev pub is_odd : ℤ → Bool
is_odd v = int_eq (int_rem_euclid (int_div_euclid v (pos 64)) (pos 2)) (pos 1)

abbrev pub odd : Round → List ℤ → Result (List ℤ) Why
odd round (e ∷ s) = pushed (truth (is_odd (rounded round e))) s
odd round [] = Err why.StackShort

abbrev pub even : Round → List ℤ → Result (List ℤ) Why
even round (e ∷ s) = pushed (truth (not (is_odd (rounded round e)))) s
even round [] = Err why.StackShort

abbrev pub and : List ℤ → Result (List ℤ) Why
and (b ∷ a ∷ s) = pushed (truth (is_true a && is_true b)) s
and _ = Err why.StackShort

abbrev pub or : List ℤ → Result (List ℤ) Why
or (b ∷ a ∷ s) = pushed (truth (is_true a || is_true b)) s
or _ = Err why.StackShort

abbrev pub negated : List ℤ → Result (List ℤ) Why
negated (e ∷ s) = pushed (truth (not (is_true e))) s
negated [] = Err why.StackShort

abbrev pub evaluated : Logic → Round → List ℤ → Result (List ℤ) Why
evaluated op.Lt round s = lt s
evaluated op.Lteq round s = lteq s
evaluated op.Gt round s = gt s
evaluated op.Gteq round s = gteq s
evaluated op.Eq round s = eq s
evaluated op.Neq round s = neq s
evaluated op.Odd round s = odd round s
evaluated op.Even round s = even round s
evaluated op.And round s = and s
evaluated op.Or round s = or s
evaluated op.Not round s = negated s

-- the count of values that an instruction takes
abbrev pub takes : Logic → ℕ
takes op.Odd = 1
takes op.Even = 1
takes op.Not = 1
takes other = 2

-- worked values: the second entry is compared with the top
one_is_less_than_two : lt (pos 2 ∷ pos 1 ∷ []) ≡ Ok (pos 1 ∷ [])
unfolding pushed
one_is_less_than_two = refl

minus_five_is_true : and (neg_ℤ (pos 5) ∷ pos 1 ∷ []) ≡ Ok (pos 1 ∷ [])
unfolding pushed
minus_five_is_true = refl

half_a_pixel_is_odd : odd round.Grid (pos 32 ∷ []) ≡ Ok (pos 1 ∷ [])
unfolding pushed
half_a_pixel_is_odd = refl
