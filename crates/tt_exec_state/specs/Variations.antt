-- OpenType, "The TrueType Instruction Set", "Getting Information": reading the instance of a variable font. The top of
-- the stack comes first.
use Rattle.std.specs.Prelude.{◌≡◌, ℤ, pos, negsuc, List, [], ◌∷◌, replicate, Result, Ok, Err, refl}
use Rattle.tt_core.specs.Limits.{stack_limit}
use Rattle.tt_core.specs.Outcomes.{◌>>=◌}
use Rattle.tt_core.specs.declared.fault.Why.{Why}
use Rattle.tt_exec_state.specs.declared.instruction.Variation.{Variation}
use Rattle.tt_exec_state.specs.declared.instruction.Variation.TheVariants as op
use Rattle.tt_exec_stack.specs.Stack.{pushed}

-- numbers pushed in order
abbrev pub all_pushed : List ℤ → List ℤ → Result (List ℤ) Why
all_pushed [] s = Ok s
all_pushed (v ∷ vs) s = pushed v s >>= λ t. all_pushed vs t

-- 17, whatever the instance; the number has no documented meaning
abbrev pub getdata : List ℤ → Result (List ℤ) Why
getdata s = pushed (pos 17) s

abbrev pub variation_answered : Variation → List ℤ → List ℤ → Result (List ℤ) Why
variation_answered op.Getvariation instance s = all_pushed instance s
variation_answered op.Getdata instance s = getdata s

-- worked values: two axes, a half and -0.8, on a stack with 7
the_first_axis_first : variation_answered op.Getvariation (pos 8192 ∷ negsuc 13107 ∷ []) (pos 7 ∷ [])
    ≡ Ok (negsuc 13107 ∷ pos 8192 ∷ pos 7 ∷ [])
unfolding pushed
the_first_axis_first = refl

seventeen : variation_answered op.Getdata (pos 8192 ∷ []) [] ≡ Ok (pos 17 ∷ [])
unfolding pushed
seventeen = refl
