-- Apple TrueType Reference Manual, "Instruction set": pushing data onto the interpreter stack. The top of the stack
-- comes first.
use Rattle.std.specs.Prelude.{◌≡◌, ℕ, ◌+◌, ◌*◌, ℤ, pos, neg_ℤ, List, [], ◌∷◌, Result, Ok, refl}
use Rattle.tt_core.specs.Numbers.{signed16}
use Rattle.tt_core.specs.Outcomes.{◌>>=◌}
use Rattle.tt_core.specs.declared.fault.Why.{Why}
use Rattle.tt_exec_stack.specs.Stack.{pushed}

-- NPUSHB and PUSHB: each byte, without a sign
abbrev pub pushed_bytes : List ℕ → List ℤ → Result (List ℤ) Why
pushed_bytes [] s = Ok s
pushed_bytes (byte ∷ bytes) s = pushed (pos byte) s >>= λ t. pushed_bytes bytes t

-- NPUSHW and PUSHW: two bytes as a signed word, the high one first
abbrev pub pushed_words : List ℕ → List ℤ → Result (List ℤ) Why
pushed_words (high ∷ low ∷ bytes) s = pushed (signed16 (high * 256 + low)) s >>= λ t. pushed_words bytes t
pushed_words _ s = Ok s

-- worked values
two_bytes : pushed_bytes (2 ∷ 255 ∷ []) [] ≡ Ok (pos 255 ∷ pos 2 ∷ [])
unfolding pushed
two_bytes = refl

a_word : pushed_words (255 ∷ 248 ∷ []) [] ≡ Ok (neg_ℤ (pos 8) ∷ [])
unfolding pushed
a_word = refl
