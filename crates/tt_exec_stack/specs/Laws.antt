-- Laws of the instructions on the stack (profile): the tolerant machine beside a strict one, and too few values.
use Rattle.std.specs.Prelude.{◌≡◌, ℕ, ◌<◌, ◌≤◌, ℤ, List, length, Err}
use Rattle.tt_core.specs.declared.fault.Why.TheVariants as why
use Rattle.tt_state.specs.Loosening.{Loosens, IsTotal}
use Rattle.tt_state.specs.declared.rounding.Round.{Round}
use Rattle.tt_state.specs.declared.tolerance.Tolerance.{Tolerance}
use Rattle.tt_state.specs.declared.tolerance.Tolerance.TheVariants as tolerance
use Rattle.tt_exec_stack.specs.Arithmetic as arithmetic
use Rattle.tt_exec_stack.specs.Logic as logic
use Rattle.tt_exec_stack.specs.Managing as managing
use Rattle.tt_exec_stack.specs.Stack.{padded}
use Rattle.tt_exec_stack.specs.declared.instruction.Arithmetic.{Arithmetic}
use Rattle.tt_exec_stack.specs.declared.instruction.Logic.{Logic}
use Rattle.tt_exec_stack.specs.declared.instruction.Managing.{Managing}

-- a tolerant machine has the result of a strict one, or another in place of a refusal that tolerance lifts
abbrev pub ManagingIsLoosened : Type 0
ManagingIsLoosened = (o : Managing) (s : List ℤ)
    → Loosens (managing.managed o tolerance.Strict s) (managing.managed o tolerance.Tolerant s)

-- with the values that it takes, an instruction does not fail with too few, or for a missing entry
abbrev pub ManagingIsTotal : Type 0
ManagingIsTotal = (o : Managing) (s : List ℤ) → managing.takes o ≤ length s
    → IsTotal (managing.managed o tolerance.Tolerant s)

abbrev pub ArithmeticIsTotal : Type 0
ArithmeticIsTotal = (o : Arithmetic) (state : Round) (s : List ℤ) → arithmetic.takes o ≤ length s
    → IsTotal (arithmetic.computed o state s)

abbrev pub LogicIsTotal : Type 0
LogicIsTotal = (o : Logic) (state : Round) (s : List ℤ) → logic.takes o ≤ length s
    → IsTotal (logic.evaluated o state s)

-- with fewer values it is refused
abbrev pub ManagingIsShort : Type 0
ManagingIsShort = (o : Managing) (t : Tolerance) (s : List ℤ) → length s < managing.takes o
    → managing.managed o t s ≡ Err why.StackShort

abbrev pub ArithmeticIsShort : Type 0
ArithmeticIsShort = (o : Arithmetic) (state : Round) (s : List ℤ) → length s < arithmetic.takes o
    → arithmetic.computed o state s ≡ Err why.StackShort

abbrev pub LogicIsShort : Type 0
LogicIsShort = (o : Logic) (state : Round) (s : List ℤ) → length s < logic.takes o
    → logic.evaluated o state s ≡ Err why.StackShort

-- a padded stack has at least the requested count of values, and one that has them is unchanged
abbrev pub PaddedIsEnough : Type 0
PaddedIsEnough = (n : ℕ) (s : List ℤ) → n ≤ length (padded n s)

abbrev pub EnoughStays : Type 0
EnoughStays = (n : ℕ) (s : List ℤ) → n ≤ length s → padded n s ≡ s
