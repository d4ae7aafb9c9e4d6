-- Numbers of a list, one by one.
use Rattle.std.proofs.Common.{◌≡◌, ℕ, zero, suc, ◌<◌, ℤ, pos, List, [], ◌∷◌, length, get_or, drop, refl, arith}
use Rattle.tt_core.specs.Outcomes.{◌>>=◌}
use Rattle.tt_exec_stack.specs.Stack.{pushed}
use Rattle.tt_exec_state.specs.Variations.{all_pushed}

-- the number at a place, and the rest after it
pub next_number : (vs : List ℤ) (at : ℕ) (v : ℤ) (s : List ℤ) → at < length vs → v ≡ get_or vs at (pos 0)
    → all_pushed (drop at vs) s ≡ (pushed v s >>= λ t. all_pushed (drop (suc at) vs) t)
next_number [] at v s within is = absurd (omega arith)
next_number (w ∷ vs) zero v s within is = rw is refl
next_number (w ∷ vs) (suc at) v s within is = next_number vs at v s (omega arith) is
