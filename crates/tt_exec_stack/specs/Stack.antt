-- Apple TrueType Reference Manual, "Instructing TrueType Glyphs": the interpreter's stack is a list of numbers of 32
-- bits, here with the top first.
use Rattle.std.specs.Prelude.{◌≡◌, ℕ, ◌-◌, ◌^◌, ℤ, pos, negsuc, neg_ℤ, int_lt, int_le, unsigned_abs, slice_get, Bool, ◌&&◌, nat_lt, if◌then◌else◌, List, [], ◌∷◌, length, take, reverse, replicate, Result, Ok, Err, refl}
use Rattle.std.specs.Option.{ok_or}
use Rattle.tt_core.specs.Limits.{stack_limit}
use Rattle.tt_core.specs.declared.fault.Why.{Why}
use Rattle.tt_core.specs.declared.fault.Why.TheVariants as why

-- a number that fits 32 bits
abbrev pub is_value : ℤ → Bool
is_value v = int_le (negsuc (2 ^ 31 - 1)) v && int_le v (pos (2 ^ 31 - 1))

-- a number pushed
unfoldable pub pushed : ℤ → List ℤ → Result (List ℤ) Why
pushed v s =
    if is_value v then (if nat_lt (length s) stack_limit then Ok (v ∷ s) else Err why.StackFull)
    else Err why.ValueRange

-- the k-th entry, counted from 1 at the top
abbrev pub kth : ℤ → List ℤ → Result ℤ Why
kth k s = if int_lt k (pos 1) then Err why.BadArgument else ok_or (slice_get s (unsigned_abs k - 1)) why.StackShort

-- n entries from the top, the top last
abbrev pub top : ℕ → List ℤ → Result (List ℤ) Why
top n s = if nat_lt (length s) n then Err why.StackShort else Ok (reverse (take n s))

-- The stack for an instruction that takes n values. Too few values count as 0, and the existing ones are lost
-- (profile).
abbrev pub padded : ℕ → List ℤ → List ℤ
padded n s = if nat_lt (length s) n then replicate n (pos 0) else s

-- the top entry that a call took, or the refusal of an empty stack
abbrev pub Pops : List ℤ → Result ℤ Why → List ℤ → Type 0
Pops old (Ok x) new = old ≡ x ∷ new
Pops old (Err e) new = (old ≡ []) × (e ≡ why.StackShort)

-- The result of a call, or its refusal, is the definition's. After a refusal nothing is said of the stack, because a
-- run ends at its first refusal. In Pops a refusal says only that the stack was empty.
abbrev pub Does : {S E : Type 0} → Result S E → S → Result (Unit {0}) E → Type 0
Does given new (Ok _) = given ≡ Ok new
Does given new (Err e) = given ≡ Err e

-- worked values
the_least : pushed (neg_ℤ (pos 2147483648)) [] ≡ Ok (neg_ℤ (pos 2147483648) ∷ [])
unfolding pushed
the_least = refl

past_the_greatest : pushed (pos 2147483648) [] ≡ Err why.ValueRange
unfolding pushed
past_the_greatest = refl

one_of_two_is_lost : padded 2 (pos 5 ∷ []) ≡ pos 0 ∷ pos 0 ∷ []
one_of_two_is_lost = refl

two_are_enough : padded 2 (pos 5 ∷ pos 6 ∷ []) ≡ pos 5 ∷ pos 6 ∷ []
two_are_enough = refl
