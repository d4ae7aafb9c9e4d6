-- Apple TrueType Reference Manual, "Instruction set": managing the stack. The top of the stack comes first.
use Rattle.std.specs.Prelude.{◌≡◌, ℕ, ◌-◌, ℤ, pos, unsigned_abs, if◌then◌else◌, List, [], ◌∷◌, ◌++◌, length, take, drop, Result, Ok, Err, refl}
use Rattle.tt_core.specs.Outcomes.{◌>>=◌}
use Rattle.tt_core.specs.declared.fault.Why.{Why}
use Rattle.tt_core.specs.declared.fault.Why.TheVariants as why
use Rattle.tt_state.specs.Tolerance.{is_tolerant}
use Rattle.tt_state.specs.declared.tolerance.Tolerance.{Tolerance}
use Rattle.tt_state.specs.declared.tolerance.Tolerance.TheVariants as tolerance
use Rattle.tt_exec_stack.specs.declared.instruction.Managing.{Managing}
use Rattle.tt_exec_stack.specs.declared.instruction.Managing.TheVariants as op
use Rattle.tt_exec_stack.specs.Stack.{kth, pushed}

abbrev pub dup : List ℤ → Result (List ℤ) Why
dup (e ∷ s) = pushed e (e ∷ s)
dup [] = Err why.StackShort

abbrev pub pop : List ℤ → Result (List ℤ) Why
pop (e ∷ s) = Ok s
pop [] = Err why.StackShort

abbrev pub clear : List ℤ → Result (List ℤ) Why
clear s = Ok []

abbrev pub swap : List ℤ → Result (List ℤ) Why
swap (b ∷ a ∷ s) = Ok (a ∷ b ∷ s)
swap _ = Err why.StackShort

abbrev pub depth : List ℤ → Result (List ℤ) Why
depth s = pushed (pos (length s)) s

-- a result, or a tolerant machine's replacement for a refusal (profile)
abbrev pub unless_refused : {A : Type 0} → Tolerance → A → Result A Why → Result A Why
unless_refused t instead (Ok a) = Ok a
unless_refused t instead (Err e) = if is_tolerant t then Ok instead else Err e

-- for a tolerant machine a missing entry is 0 (profile)
abbrev pub cindex : Tolerance → List ℤ → Result (List ℤ) Why
cindex t (k ∷ s) = unless_refused t (pos 0) (kth k s) >>= λ e. pushed e s
cindex t [] = Err why.StackShort

-- for a missing entry a tolerant machine moves nothing (profile)
abbrev pub mindex : Tolerance → List ℤ → Result (List ℤ) Why
mindex t (k ∷ s) =
    unless_refused t s (kth k s >>= λ e. Ok (e ∷ (take (unsigned_abs k - 1) s ++ drop (unsigned_abs k) s)))
mindex t [] = Err why.StackShort

abbrev pub roll : List ℤ → Result (List ℤ) Why
roll (c ∷ b ∷ a ∷ s) = Ok (a ∷ c ∷ b ∷ s)
roll _ = Err why.StackShort

abbrev pub managed : Managing → Tolerance → List ℤ → Result (List ℤ) Why
managed op.Dup t s = dup s
managed op.Pop t s = pop s
managed op.Clear t s = clear s
managed op.Swap t s = swap s
managed op.Depth t s = depth s
managed op.Cindex t s = cindex t s
managed op.Mindex t s = mindex t s
managed op.Roll t s = roll s

-- the count of values that an instruction takes at once
abbrev pub takes : Managing → ℕ
takes op.Clear = 0
takes op.Depth = 0
takes op.Swap = 2
takes op.Roll = 3
takes other = 1

-- worked values: 10, 20, 30 with 30 on top
the_second_copied : cindex tolerance.Strict (pos 2 ∷ pos 30 ∷ pos 20 ∷ pos 10 ∷ [])
    ≡ Ok (pos 20 ∷ pos 30 ∷ pos 20 ∷ pos 10 ∷ [])
unfolding pushed
the_second_copied = refl

the_third_moved : mindex tolerance.Strict (pos 3 ∷ pos 30 ∷ pos 20 ∷ pos 10 ∷ []) ≡ Ok (pos 10 ∷ pos 30 ∷ pos 20 ∷ [])
the_third_moved = refl

no_fourth : mindex tolerance.Strict (pos 4 ∷ pos 30 ∷ pos 20 ∷ pos 10 ∷ []) ≡ Err why.StackShort
no_fourth = refl

the_third_comes_up : roll (pos 30 ∷ pos 20 ∷ pos 10 ∷ []) ≡ Ok (pos 10 ∷ pos 30 ∷ pos 20 ∷ [])
the_third_comes_up = refl

-- the fifth of one, and of two
no_fifth_copied : cindex tolerance.Strict (pos 5 ∷ pos 7 ∷ []) ≡ Err why.StackShort
no_fifth_copied = refl

no_fifth_is_zero : cindex tolerance.Tolerant (pos 5 ∷ pos 7 ∷ []) ≡ Ok (pos 0 ∷ pos 7 ∷ [])
unfolding pushed
no_fifth_is_zero = refl

no_fifth_moved : mindex tolerance.Strict (pos 5 ∷ pos 32 ∷ pos 0 ∷ []) ≡ Err why.StackShort
no_fifth_moved = refl

no_fifth_left_out : mindex tolerance.Tolerant (pos 5 ∷ pos 32 ∷ pos 0 ∷ []) ≡ Ok (pos 32 ∷ pos 0 ∷ [])
no_fifth_left_out = refl

the_zeroth_refused : cindex tolerance.Strict (pos 0 ∷ pos 7 ∷ []) ≡ Err why.BadArgument
the_zeroth_refused = refl

the_zeroth_is_zero : cindex tolerance.Tolerant (pos 0 ∷ pos 7 ∷ []) ≡ Ok (pos 0 ∷ pos 7 ∷ [])
unfolding pushed
the_zeroth_is_zero = refl
