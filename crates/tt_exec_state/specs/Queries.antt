-- Apple TrueType Reference Manual, "Instruction set": reading data, the size and the engine. The top of the stack comes
-- first.
use Rattle.std.specs.Prelude.{◌≡◌, ℕ, ◌+◌, ℤ, pos, neg_ℤ, Bool, ◌&&◌, if◌then◌else◌, List, [], ◌∷◌, Result, Ok, Err, refl}
use Rattle.std.specs.Int.{int_div_euclid, int_rem_euclid}
use Rattle.std.specs.Ordering.{int_eq}
use Rattle.tt_core.specs.declared.fault.Why.{Why}
use Rattle.tt_core.specs.declared.fault.Why.TheVariants as why
use Rattle.tt_exec_state.specs.declared.instruction.Query.{Query}
use Rattle.tt_exec_state.specs.declared.instruction.Query.TheVariants as op
use Rattle.tt_exec_stack.specs.Stack.{pushed}
use Rattle.tt_exec_state.specs.Instances.{has_instance}

abbrev pub mppem : ℕ → List ℤ → Result (List ℤ) Why
mppem ppem s = pushed (pos ppem) s

-- pixels per em in place of the point size (profile)
abbrev pub mps : ℕ → List ℤ → Result (List ℤ) Why
mps ppem s = pushed (pos ppem) s

-- what a selector asks for: the version by bit 0, whether there is an instance of a variable font by bit 3
abbrev pub asks_version : ℤ → Bool
asks_version selector = int_eq (int_rem_euclid selector (pos 2)) (pos 1)

abbrev pub asks_variation : ℤ → Bool
asks_variation selector = int_eq (int_rem_euclid (int_div_euclid selector (pos 8)) (pos 2)) (pos 1)

-- version 35 (profile), and bit 10 at an instance
abbrev pub information : Bool → ℤ → ℕ
information varied selector =
    if varied && asks_variation selector then (if asks_version selector then 35 else 0) + 1024
    else (if asks_version selector then 35 else 0)

abbrev pub getinfo : List ℤ → List ℤ → Result (List ℤ) Why
getinfo instance (selector ∷ s) = pushed (pos (information (has_instance instance) selector)) s
getinfo instance [] = Err why.StackShort

abbrev pub answered : Query → ℕ → List ℤ → List ℤ → Result (List ℤ) Why
answered op.Mppem ppem instance s = mppem ppem s
answered op.Mps ppem instance s = mps ppem s
answered op.Getinfo ppem instance s = getinfo instance s

-- the count of values that an instruction takes
abbrev pub takes : Query → ℕ
takes op.Getinfo = 1
takes other = 0

-- worked values
all_bits_set : getinfo [] (neg_ℤ (pos 1) ∷ []) ≡ Ok (pos 35 ∷ [])
unfolding pushed
all_bits_set = refl

no_version : getinfo [] (pos 2 ∷ []) ≡ Ok (pos 0 ∷ [])
unfolding pushed
no_version = refl

no_instance : getinfo [] (pos 8 ∷ []) ≡ Ok (pos 0 ∷ [])
unfolding pushed
no_instance = refl

-- on two axes
at_an_instance : getinfo (pos 16384 ∷ pos 0 ∷ []) (pos 8 ∷ []) ≡ Ok (pos 1024 ∷ [])
unfolding pushed
at_an_instance = refl

all_bits_at_an_instance : getinfo (pos 16384 ∷ pos 0 ∷ []) (neg_ℤ (pos 1) ∷ []) ≡ Ok (pos 1059 ∷ [])
unfolding pushed
all_bits_at_an_instance = refl

not_asked : getinfo (pos 16384 ∷ pos 0 ∷ []) (pos 1015 ∷ []) ≡ Ok (pos 35 ∷ [])
unfolding pushed
not_asked = refl
