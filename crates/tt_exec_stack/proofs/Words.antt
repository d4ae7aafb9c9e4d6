-- Bytes of a list, one by one, and its words, two by two.
use Rattle.std.proofs.Common.{◌≡◌, ℕ, zero, suc, ◌+◌, ◌*◌, ◌<◌, ◌≤◌, ℤ, pos, List, [], ◌∷◌, length, get_or, drop, Ok, refl, arith}
use Rattle.tt_core.specs.Numbers.{signed16}
use Rattle.tt_exec_stack.specs.Stack.{pushed}
use Rattle.tt_core.specs.Outcomes.{◌>>=◌}
use Rattle.tt_exec_stack.specs.Pushing.{pushed_bytes, pushed_words}

-- the byte at a place, and the rest after it
pub next_byte : (bytes : List ℕ) (at byte : ℕ) (s : List ℤ) → at < length bytes → byte ≡ get_or bytes at 0
    → pushed_bytes (drop at bytes) s ≡ (pushed (pos byte) s >>= λ t. pushed_bytes (drop (suc at) bytes) t)
next_byte [] at byte s within is = absurd (omega arith)
next_byte (b ∷ bytes) zero byte s within is = rw is refl
next_byte (b ∷ bytes) (suc at) byte s within is = next_byte bytes at byte s (omega arith) is

-- the word at a place, and the rest after it
pub next_word : (bytes : List ℕ) (at high low : ℕ) (s t : List ℤ) → at + 1 < length bytes → high ≡ get_or bytes at 0
    → low ≡ get_or bytes (suc at) 0 → pushed (signed16 (high * 256 + low)) s ≡ Ok t
    → pushed_words (drop at bytes) s ≡ pushed_words (drop (suc (suc at)) bytes) t
next_word [] at high low s t within above below put = absurd (omega arith)
next_word (b ∷ []) at high low s t within above below put = absurd (omega arith)
next_word (b ∷ c ∷ bytes) zero high low s t within above below put =
    let word = rw (above, below) at put in
    rw word refl
next_word (b ∷ c ∷ bytes) (suc at) high low s t within above below put =
    next_word (c ∷ bytes) at high low s t (omega arith) above below put

-- no word remains
pub no_word : (bytes : List ℕ) (at : ℕ) (s : List ℤ) → length bytes ≤ at + 1 → pushed_words (drop at bytes) s ≡ Ok s
no_word [] zero s past = refl
no_word [] (suc at) s past = refl
no_word (b ∷ []) zero s past = refl
no_word (b ∷ c ∷ bytes) zero s past = absurd (omega arith)
no_word (b ∷ bytes) (suc at) s past = no_word bytes at s (omega arith)
