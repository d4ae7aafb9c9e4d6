-- Properties of an instruction by the count of values that it takes.
use Rattle.std.proofs.Common.{◌≡◌, ◌<◌, ◌≤◌, Bool, true, false, if◌then◌else◌, ℤ, List, [], ◌∷◌, length, nat_lt, Result, Ok, Err, refl, arith}
use Rattle.tt_core.specs.Limits.{stack_limit}
use Rattle.tt_core.specs.declared.fault.Why.{Why}
use Rattle.tt_core.specs.declared.fault.Why.TheVariants as why
use Rattle.tt_state.specs.Loosening.{IsTotal}
use Rattle.tt_exec_stack.specs.Stack.{is_value, pushed}

-- with these values
pub of_one : {A : Type 0} (f : List ℤ → Result A Why) → ((a : ℤ) (s : List ℤ) → IsTotal (f (a ∷ s)))
    → (s : List ℤ) → 1 ≤ length s → IsTotal (f s)
of_one f next (a ∷ s) enough = next a s
of_one f next [] enough = absurd (omega arith)

pub of_two : {A : Type 0} (f : List ℤ → Result A Why) → ((b a : ℤ) (s : List ℤ) → IsTotal (f (b ∷ a ∷ s)))
    → (s : List ℤ) → 2 ≤ length s → IsTotal (f s)
of_two f next (b ∷ a ∷ s) enough = next b a s
of_two f next (b ∷ []) enough = absurd (omega arith)
of_two f next [] enough = absurd (omega arith)

-- without them
pub short_of_one : {A : Type 0} (f : List ℤ → Result A Why) → f [] ≡ Err why.StackShort
    → (s : List ℤ) → length s < 1 → f s ≡ Err why.StackShort
short_of_one f none [] few = none
short_of_one f none (a ∷ s) few = absurd (omega arith)

pub short_of_two : {A : Type 0} (f : List ℤ → Result A Why) → f [] ≡ Err why.StackShort
    → ((a : ℤ) → f (a ∷ []) ≡ Err why.StackShort) → (s : List ℤ) → length s < 2 → f s ≡ Err why.StackShort
short_of_two f none one [] few = none
short_of_two f none one (a ∷ []) few = one a
short_of_two f none one (b ∷ a ∷ s) few = absurd (omega arith)

-- one of two results
pub either : {A : Type 0} (b : Bool) (r other : Result A Why) → IsTotal r → IsTotal other
    → IsTotal (if b then r else other)
either true r other first second = first
either false r other first second = second

-- a push is not refused for too few values
pub pushed_total : (v : ℤ) (s : List ℤ) → IsTotal (pushed v s)
unfolding pushed
pushed_total v s =
    either (is_value v) _ _ (either (nat_lt (length s) stack_limit) (Ok (v ∷ s)) (Err why.StackFull) (record {}) refl) refl
